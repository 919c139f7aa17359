use Rattle.co_picture.proofs.Ordered.{drawn_in_order}
use Rattle.co_picture.proofs.laws.each_item_is_drawn_once.Goals as goal

pub returns : goal.returns
returns c = λ items. drawn_in_order items
