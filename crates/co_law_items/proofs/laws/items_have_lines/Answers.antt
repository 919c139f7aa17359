use Rattle.co_law_items.proofs.Rows.{fresh_items}
use Rattle.co_law_items.proofs.laws.items_have_lines.Goals as goal

pub returns : goal.returns
returns c = fresh_items
