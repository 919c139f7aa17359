use Rattle.co_law.proofs.EveryOrder.{every_order}
use Rattle.co_law.proofs.order.commitment_ordered.Goals as goal

pub returns : goal.returns
returns c = every_order
