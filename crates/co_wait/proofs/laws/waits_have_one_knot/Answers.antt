use Rattle.co_wait.proofs.Once.{one_knot}
use Rattle.co_wait.proofs.laws.waits_have_one_knot.Goals as goal

pub returns : goal.returns
returns c = one_knot
