use Rattle.co_law_exact.proofs.Ballots.{yes_sent_exact}
use Rattle.co_law_exact.proofs.votes.yes_sent_is_exact.Goals as goal

pub returns : goal.returns
returns c = yes_sent_exact
