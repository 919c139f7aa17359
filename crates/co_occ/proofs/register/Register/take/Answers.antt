use Rattle.co_occ.proofs.Registering.{knows_taken}
use Rattle.co_occ.proofs.register.Register.take.Goals as goal

pub invariant_of-self : goal.invariant_of-self
invariant_of-self c = knows_taken c.self.inside.oldest c.remove.new.self c.self.inside.reads c.remove-2.new.self c.args.t c.self.invariant c.remove.ensures.rest c.remove-2.ensures.rest
