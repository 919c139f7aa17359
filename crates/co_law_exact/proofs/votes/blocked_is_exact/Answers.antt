use Rattle.co_law_exact.proofs.Operations.{operations_exact}
use Rattle.co_law_exact.proofs.votes.blocked_is_exact.Goals as goal

pub returns : goal.returns
returns c = operations_exact
