use Rattle.std.proofs.Common.{◌≡◌, ◌++◌, take}
use Rattle.std.specs.List.{flat_map, AllByRecursion}
use Rattle.co_record.specs.Spelling.{change_text, IsChange}
use Rattle.co_record.proofs.put.put_changes.Given as goal

abbrev pub invariant-loop-item : goal.invariant-loop-item
invariant-loop-item l = record {
  text : l.into.items ≡ l.fn.into.items ++ flat_map change_text (take l.item-index l.items);
  each : AllByRecursion IsChange (take l.item-index l.items);
}
