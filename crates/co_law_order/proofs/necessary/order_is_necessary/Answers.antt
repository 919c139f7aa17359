use Rattle.co_law_order.proofs.Necessity.{necessary}
use Rattle.co_law_order.proofs.necessary.order_is_necessary.Goals as goal

pub returns : goal.returns
returns c = λ kinds kind trace t u m none among once global_t global_u apart precedes order. necessary kinds kind trace t u m none among once global_t global_u apart precedes order
