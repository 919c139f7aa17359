use Rattle.co_law_once.proofs.Ended.{ended_once}
use Rattle.co_law_once.proofs.once.ends_are_told_once.Goals as goal

pub returns : goal.returns
returns c = ended_once
