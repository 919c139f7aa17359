use Rattle.std.proofs.Common.{◌≡◌, ◌++◌, drop}
use Rattle.co_table.specs.Table.{cell_text}
use Rattle.co_table.proofs.telling.append_cell.Given as goal

abbrev pub invariant-loop-part : goal.invariant-loop-part
invariant-loop-part l = l.into.items ++ cell_text l.told l.place (drop l.part-index l.parts) ≡ l.initial.into.items ++ cell_text l.behind l.place l.parts
