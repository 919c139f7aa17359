use Rattle.std.proofs.Common.{◌≡◌, ◌++◌, take}
use Rattle.std.specs.List.{flat_map, AllByRecursion}
use Rattle.co_record.specs.Spelling.{txn_text, IsTxn}
use Rattle.co_record.proofs.put.put_txns.Given as goal

abbrev pub invariant-loop-item : goal.invariant-loop-item
invariant-loop-item l = record {
  text : l.into.items ≡ l.fn.into.items ++ flat_map txn_text (take l.item-index l.items);
  each : AllByRecursion IsTxn (take l.item-index l.items);
}
