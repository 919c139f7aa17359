use Rattle.std.proofs.Common.{◌≡◌}
use Rattle.co_store.specs.StoreState.{all_laid_back}
use Rattle.co_store.proofs.store.lay_all.Given as goal

abbrev pub invariant-loop-images : goal.invariant-loop-images
invariant-loop-images l = all_laid_back l.records l.images-iterator ≡ all_laid_back l.initial.records l.initial.images-iterator
