use Rattle.co_wait.proofs.Rounds.{knot_holds_of}
use Rattle.co_wait.proofs.laws.knots_hold.Goals as goal

pub returns : goal.returns
returns c = knot_holds_of
