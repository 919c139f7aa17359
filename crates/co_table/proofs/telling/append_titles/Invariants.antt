use Rattle.std.proofs.Common.{◌≡◌, ◌++◌, drop}
use Rattle.co_table.specs.Table.{titles_text}
use Rattle.co_table.proofs.telling.append_titles.Given as goal

abbrev pub invariant-loop-node : goal.invariant-loop-node
invariant-loop-node l = l.into.items ++ titles_text (drop l.node-index l.nodes) ≡ l.initial.into.items ++ titles_text l.nodes
