use Rattle.std.proofs.Common.{◌≡◌, ◌≤◌, ◌+◌, ◌++◌, vec_len}
use Rattle.co_picture.specs.Columns.{coord_lanes, member_lanes}
use Rattle.co_picture.proofs.columns.lanes_of_nodes.Given as goal

abbrev pub invariant-loop-number : goal.invariant-loop-number
invariant-loop-number l = record {
  lanes : l.lanes.items ≡ coord_lanes l.number;
  few : vec_len l.lanes ≡ l.number;
}

abbrev pub invariant-loop-number-2 : goal.invariant-loop-number-2
invariant-loop-number-2 l = record {
  lanes : l.lanes.items ≡ coord_lanes l.coords ++ member_lanes l.number;
  few : vec_len l.lanes ≤ l.coords + l.number;
}
