use Rattle.co_law_check.proofs.Standing.{items_stand}
use Rattle.co_law_check.proofs.laws.items_stand_in_their_text.Goals as goal

pub returns : goal.returns
returns c = items_stand
