use Rattle.std.proofs.Common.{◌≡◌, ◌++◌, take}
use Rattle.std.specs.List.{flat_map, AllByRecursion}
use Rattle.co_record.specs.Spelling.{range_text, IsRange}
use Rattle.co_record.proofs.put.put_ranges.Given as goal

abbrev pub invariant-loop-item : goal.invariant-loop-item
invariant-loop-item l = record {
  text : l.into.items ≡ l.fn.into.items ++ flat_map range_text (take l.item-index l.items);
  each : AllByRecursion IsRange (take l.item-index l.items);
}
