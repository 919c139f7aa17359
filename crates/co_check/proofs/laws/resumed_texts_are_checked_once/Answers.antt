use Rattle.co_check.proofs.Fronts.{resumed_once}
use Rattle.co_check.proofs.laws.resumed_texts_are_checked_once.Goals as goal

pub returns : goal.returns
returns c = resumed_once
