use Rattle.std.proofs.Common.{◌≡◌, ◌++◌, drop}
use Rattle.co_table.specs.Table.{rows_text}
use Rattle.co_table.proofs.telling.append_rows.Given as goal

abbrev pub invariant-loop-at : goal.invariant-loop-at
invariant-loop-at l = l.into.items ++ rows_text l.nodes (drop l.at l.entries) ≡ l.initial.into.items ++ rows_text l.nodes l.entries
