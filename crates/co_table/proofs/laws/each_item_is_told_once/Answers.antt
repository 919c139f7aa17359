use Rattle.co_table.proofs.Once.{told_once}
use Rattle.co_table.proofs.laws.each_item_is_told_once.Goals as goal

pub returns : goal.returns
returns c = λ items. told_once items
