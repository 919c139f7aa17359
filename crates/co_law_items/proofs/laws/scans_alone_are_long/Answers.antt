use Rattle.co_law_items.proofs.Texts.{short_item}
use Rattle.co_law_items.proofs.laws.scans_alone_are_long.Goals as goal

pub returns : goal.returns
returns c = short_item
