use Rattle.std.proofs.Common.{◌≡◌, ◌++◌, take}
use Rattle.co_log.specs.Marks.{marks_of}
use Rattle.co_log.proofs.marks.put_lent_marks.Given as goal

abbrev pub invariant-loop-item : goal.invariant-loop-item
invariant-loop-item l = l.told ≡ l.fn.told ++ marks_of l.node (take l.item-index l.items)
