use Rattle.co_law_exact.proofs.Ballots.{no_exact}
use Rattle.co_law_exact.proofs.votes.no_is_exact.Goals as goal

pub returns : goal.returns
returns c = no_exact
