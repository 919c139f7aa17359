use Rattle.std.proofs.Common.{◌≡◌, ◌≤◌, ◌++◌, [], take, drop, vec_len}
use Rattle.co_picture.specs.Course.{at_first}
use Rattle.co_picture.specs.Entry.{entries_from}
use Rattle.co_picture.proofs.entry.entries_of.Given as goal

abbrev pub invariant-loop-row : goal.invariant-loop-row
invariant-loop-row l = record {
  entries : l.entries.items ++ entries_from (take l.row l.items) l.course (drop l.row l.items) ≡ entries_from [] at_first l.items;
  few : l.course.decided ≤ l.row;
  count : vec_len l.entries ≡ l.row;
}
