use Rattle.std.proofs.Common.{take}
use Rattle.std.specs.List.{AllByRecursion}
use Rattle.co_record.specs.Spelling.{IsWritable}
use Rattle.co_log.proofs.counting.are_counted.Given as goal

-- those so far are counted
abbrev pub invariant-loop-item : goal.invariant-loop-item
invariant-loop-item l = AllByRecursion IsWritable (take l.item-index l.items)
