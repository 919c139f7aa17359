use Rattle.co_law_once.proofs.Told.{told_once}
use Rattle.co_law_once.proofs.once.commits_are_told_once.Goals as goal

pub returns : goal.returns
returns c = told_once
