use Rattle.co_check.proofs.Fronts.{checked_once}
use Rattle.co_check.proofs.laws.texts_are_checked_once.Goals as goal

pub returns : goal.returns
returns c = checked_once
