use Rattle.co_stamps.proofs.Agreeing.{agree_none}
use Rattle.co_stamps.proofs.stamps.Stamps.new.Goals as goal

pub invariant_of-result : goal.invariant_of-result
invariant_of-result c = agree_none c.new.result c.new-2.result c.new.ensures c.new-2.ensures
