use Rattle.co_law_exact.proofs.Verdicts.{verdict_exact}
use Rattle.co_law_exact.proofs.votes.verdicts_are_exact.Goals as goal

pub returns : goal.returns
returns c = verdict_exact
