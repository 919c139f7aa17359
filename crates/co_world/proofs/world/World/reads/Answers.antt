use Rattle.std.proofs.Common.{◌≡◌, ℕ, refl, subst}
use Rattle.std.specs.Prelude.{ℕ, List, IfOk, OnOk}
use Rattle.co_base.specs.declared.op.Op.TheVariants as op
use Rattle.co_plain.specs.Step.{operate}
use Rattle.co_plain.specs.Runs.{numbered}
use Rattle.co_world.specs.Standing.{RepresentsWorld}
use Rattle.co_world.proofs.Ends.{passed_memory}
use Rattle.co_world.proofs.world.World.reads.Goals as goal

pub returns-in_err-copy-clause-memory : goal.returns-in_err-copy-clause-memory
returns-in_err-copy-clause-memory g c =
    passed_memory _ c.from_residual.result c.from_residual.ensures refl

pub returns-clause-items : goal.returns-clause-items
returns-clause-items g c = λ s r ready.
    subst (λ (k : List ℕ). IfOk c.operate.result (λ items. items ≡ numbered c.args.number (operate s c.args.t c.args.member (op.Read k)).items)) c.in_ok-copy.ensures (c.operate.ensures.items s r ready)

pub returns-clause-stands : goal.returns-clause-stands
returns-clause-stands g c = λ s r ready.
    subst (λ (k : List ℕ). OnOk c.operate.result (RepresentsWorld g.E.Engine.takes g.E.Engine.stands_for c.operate.new.self (operate s c.args.t c.args.member (op.Read k)).state)) c.in_ok-copy.ensures (c.operate.ensures.stands s r ready)

pub returns-clause-held : goal.returns-clause-held
returns-clause-held g c =
    c.operate.ensures.held

pub returns-clause-memory : goal.returns-clause-memory
returns-clause-memory g c =
    c.operate.ensures.memory
