use Rattle.co_law_node.proofs.MemberCauses.{yes_exact}
use Rattle.co_law_node.proofs.causes.yes_is_exact.Goals as goal

pub returns : goal.returns
returns c = yes_exact
