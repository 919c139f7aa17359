use Rattle.std.proofs.Common.{◌-◌, arith, refl}
use Rattle.co_base.specs.declared.node.Node.TheVariants.{Member, Coord}
use Rattle.co_base.proofs.node.Node.of_byte.Goals as goal

pub returns-in-1-to-16-clause-none : goal.returns-in-1-to-16-clause-none
returns-in-1-to-16-clause-none c = (λ e. absurd (cc), λ f. absurd (f (Member c.args.byte) (omega arith, omega arith) refl))

pub returns-in-129-to-136-clause-none : goal.returns-in-129-to-136-clause-none
returns-in-129-to-136-clause-none c = (λ e. absurd (cc), λ f. absurd (f (Coord (c.args.byte - 128)) (omega arith, omega arith) (omega arith)))
