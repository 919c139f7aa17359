use Rattle.std.proofs.Common.{◌≡◌}
use Rattle.co_store.specs.StoreState.{laid_back}
use Rattle.co_store.proofs.store.lay.Given as goal

abbrev pub invariant-loop-key : goal.invariant-loop-key
invariant-loop-key l = laid_back l.records l.key-iterator ≡ laid_back l.initial.records l.initial.key-iterator
