use Rattle.co_wait.proofs.Rounds.{no_round}
use Rattle.co_wait.proofs.laws.orders_have_no_cycle.Goals as goal

pub returns : goal.returns
returns c = no_round
