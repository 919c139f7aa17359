use Rattle.std.proofs.Common.{◌≡◌, ◌++◌, drop}
use Rattle.co_table.specs.Table.{node_cells}
use Rattle.co_table.proofs.telling.append_node_cells.Given as goal

abbrev pub invariant-loop-node : goal.invariant-loop-node
invariant-loop-node l = l.into.items ++ node_cells l.parts (drop l.node-index l.nodes) ≡ l.initial.into.items ++ node_cells l.parts l.nodes
