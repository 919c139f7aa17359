use Rattle.co_occ.proofs.Registering.{knows_none}
use Rattle.co_occ.proofs.register.Register.new.Goals as goal

pub invariant_of-result : goal.invariant_of-result
invariant_of-result c = knows_none c.new-2.result c.new.result c.new-2.ensures c.new.ensures
