use Rattle.std.proofs.Common.{◌≡◌, ◌≤◌, ◌++◌, drop}
use Rattle.co_table.specs.Entry.{entries_from, entries_of}
use Rattle.co_table.proofs.entry.entries_of.Given as goal

abbrev pub invariant-loop-item : goal.invariant-loop-item
invariant-loop-item l = record {
  entries : l.entries.items ++ entries_from l.nodes l.course (drop l.item-index l.items) ≡ entries_of l.nodes l.items;
  few : l.course.decided ≤ l.item-index;
}
