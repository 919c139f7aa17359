use Rattle.std.proofs.Common.{◌≡◌, ◌++◌, take, drop}
use Rattle.co_table.specs.Table.{parts_of}
use Rattle.co_table.proofs.telling.parts_of.Given as goal

abbrev pub invariant-loop-at : goal.invariant-loop-at
invariant-loop-at l = parts_of l.entries ≡ take l.at l.entries ++ parts_of (drop l.at l.entries)
