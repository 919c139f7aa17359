use Rattle.std.proofs.Common.{◌≡◌, ◌≤◌, ◌++◌, drop, map, vec_len, option_copied}
use Rattle.co_picture.specs.Columns.{column_of}
use Rattle.co_picture.proofs.columns.columns_of.Given as goal

abbrev pub invariant-loop-lane : goal.invariant-loop-lane
invariant-loop-lane l = record {
  columns : l.columns.items ++ map (column_of (option_copied l.head) l.entries) (drop l.lane-index l.lane-items) ≡ map (column_of (option_copied l.head) l.entries) l.lane-items;
  few : vec_len l.columns ≡ l.lane-index;
}
