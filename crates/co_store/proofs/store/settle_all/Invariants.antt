use Rattle.std.proofs.Common.{◌≡◌}
use Rattle.co_store.specs.Images.{settled_all}
use Rattle.co_store.proofs.store.settle_all.Given as goal

abbrev pub invariant-loop-key : goal.invariant-loop-key
invariant-loop-key l = settled_all l.slots l.key-iterator ≡ settled_all l.initial.slots l.initial.key-iterator
