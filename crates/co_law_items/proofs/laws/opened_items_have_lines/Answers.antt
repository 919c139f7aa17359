use Rattle.co_law_items.proofs.Rows.{found_items}
use Rattle.co_law_items.proofs.laws.opened_items_have_lines.Goals as goal

pub returns : goal.returns
returns c = found_items
