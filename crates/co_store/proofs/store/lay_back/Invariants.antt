use Rattle.std.proofs.Common.{◌≡◌, length}
use Rattle.std.specs.FinMap.{entries}
use Rattle.co_store.specs.Images.{restored_all}
use Rattle.co_store.proofs.store.lay_back.Given as goal

abbrev pub invariant-loop-key : goal.invariant-loop-key
invariant-loop-key l = restored_all l.slots (entries l.images) ≡ restored_all l.initial.slots (entries l.initial.images)

abbrev pub decreases-loop-key : goal.decreases-loop-key
decreases-loop-key l = length (entries l.images)
