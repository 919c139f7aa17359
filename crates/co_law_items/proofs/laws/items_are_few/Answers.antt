use Rattle.co_law_items.proofs.Rows.{found_few}
use Rattle.co_law_items.proofs.laws.items_are_few.Goals as goal

pub returns : goal.returns
returns c = found_few
