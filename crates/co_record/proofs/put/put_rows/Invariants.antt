use Rattle.std.proofs.Common.{◌≡◌, ◌++◌, take}
use Rattle.std.specs.List.{flat_map, AllByRecursion}
use Rattle.co_record.specs.Spelling.{row_text, IsRow}
use Rattle.co_record.proofs.put.put_rows.Given as goal

abbrev pub invariant-loop-item : goal.invariant-loop-item
invariant-loop-item l = record {
  text : l.into.items ≡ l.fn.into.items ++ flat_map row_text (take l.item-index l.items);
  each : AllByRecursion IsRow (take l.item-index l.items);
}
