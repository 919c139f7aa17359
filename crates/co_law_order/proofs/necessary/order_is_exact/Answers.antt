use Rattle.co_law_order.proofs.Exactness.{joined_serializable, serializable_ordered}
use Rattle.co_law_order.proofs.necessary.order_is_exact.Goals as goal

pub returns-clause-enough : goal.returns-clause-enough
returns-clause-enough c = joined_serializable

pub returns-clause-needed : goal.returns-clause-needed
returns-clause-needed c = serializable_ordered
