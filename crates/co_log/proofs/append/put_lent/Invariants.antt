use Rattle.std.proofs.Common.{◌≡◌, ◌++◌, take}
use Rattle.std.specs.List.{AllByRecursion}
use Rattle.co_record.specs.Spelling.{IsSpelled}
use Rattle.co_log.specs.LogFile.{spelled}
use Rattle.co_log.proofs.append.put_lent.Given as goal

abbrev pub invariant-loop-item : goal.invariant-loop-item
invariant-loop-item l = record {
  text : l.into.items ≡ l.fn.into.items ++ spelled (take l.item-index l.items);
  each : AllByRecursion IsSpelled (take l.item-index l.items);
}
