use Rattle.std.proofs.Common.{[]}
use Rattle.co_law_order.proofs.Locality.{ordered_whole, ordered_parts, own_decisions, operations_own, installs_own}
use Rattle.co_law_order.proofs.local.ordering_is_local.Goals as goal

pub returns-clause-whole : goal.returns-clause-whole
returns-clause-whole c = ordered_whole

pub returns-clause-parts : goal.returns-clause-parts
returns-clause-parts c = ordered_parts

pub returns-clause-decisions : goal.returns-clause-decisions
returns-clause-decisions c = λ trace m. own_decisions [] trace m

pub returns-clause-operations : goal.returns-clause-operations
returns-clause-operations c = operations_own

pub returns-clause-installs : goal.returns-clause-installs
returns-clause-installs c = installs_own
