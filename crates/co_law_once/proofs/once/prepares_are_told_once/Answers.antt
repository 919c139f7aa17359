use Rattle.co_law_once.proofs.PreparesTold.{prepared_once}
use Rattle.co_law_once.proofs.once.prepares_are_told_once.Goals as goal

pub returns : goal.returns
returns c = prepared_once
