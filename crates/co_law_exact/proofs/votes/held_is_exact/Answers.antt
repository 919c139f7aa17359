use Rattle.co_law_exact.proofs.Ballots.{held_exact}
use Rattle.co_law_exact.proofs.votes.held_is_exact.Goals as goal

pub returns : goal.returns
returns c = held_exact
