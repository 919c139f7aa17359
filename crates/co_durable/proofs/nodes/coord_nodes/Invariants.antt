use Rattle.std.proofs.Common.{◌≡◌}
use Rattle.co_durable.specs.Nodes.{coord_nodes}
use Rattle.co_durable.proofs.nodes.coord_nodes.Given as goal

abbrev pub invariant-loop-place : goal.invariant-loop-place
invariant-loop-place l = l.nodes.items ≡ coord_nodes l.place
