use Rattle.co_law.proofs.WritableRuns.{are_writable}
use Rattle.co_law.proofs.nodes.writable_nodes.Goals as goal

pub returns : goal.returns
returns c = are_writable
