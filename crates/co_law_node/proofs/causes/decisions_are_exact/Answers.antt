use Rattle.co_law_node.proofs.CoordCauses.{decision_exact}
use Rattle.co_law_node.proofs.causes.decisions_are_exact.Goals as goal

pub returns : goal.returns
returns c = decision_exact
