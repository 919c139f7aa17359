use Rattle.co_law_once.proofs.Forced.{forced_once}
use Rattle.co_law_once.proofs.once.records_are_forced_once.Goals as goal

pub returns : goal.returns
returns c = forced_once
