use Rattle.std.proofs.Common.{◌≡◌, ◌≤◌, ◌+◌, ◌*◌, drop, vec_len, option_copied}
use Rattle.co_picture.specs.Columns.{lanes_from, lanes_in_head}
use Rattle.co_picture.proofs.columns.lanes_of.Given as goal

abbrev pub invariant-loop-entry : goal.invariant-loop-entry
invariant-loop-entry l = record {
  lanes : lanes_from l.lanes.items (drop l.entry-index l.entries) ≡ lanes_from (lanes_in_head (option_copied l.head)) l.entries;
  few : vec_len l.lanes ≤ 24 + 2 * l.entry-index;
}
