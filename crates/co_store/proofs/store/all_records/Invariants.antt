use Rattle.std.proofs.Common.{◌≡◌}
use Rattle.co_store.specs.StoreState.{all_noted}
use Rattle.co_store.proofs.store.all_records.Given as goal

abbrev pub invariant-loop-key : goal.invariant-loop-key
invariant-loop-key l = all_noted l.records l.key-iterator ≡ all_noted l.initial.records l.initial.key-iterator
