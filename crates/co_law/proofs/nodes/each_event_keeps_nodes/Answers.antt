use Rattle.co_law.proofs.EveryInvariant.{step_nodes_whole}
use Rattle.co_law.proofs.nodes.each_event_keeps_nodes.Goals as goal

pub returns : goal.returns
returns c = step_nodes_whole
