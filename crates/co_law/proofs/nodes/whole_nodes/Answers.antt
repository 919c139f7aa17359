use Rattle.co_law.proofs.WholeRuns.{are_whole}
use Rattle.co_law.proofs.nodes.whole_nodes.Goals as goal

pub returns : goal.returns
returns c = are_whole
