use Rattle.std.proofs.Common.{◌≡◌, ◌<◌}
use Rattle.co_locktab.specs.Forks.{shared_height}
use Rattle.co_locktab.proofs.fork.shared_height.Given as goal

abbrev pub invariant-loop-height : goal.invariant-loop-height
invariant-loop-height l = (shared_height l.height l.one l.other ≡ shared_height 7 l.one l.other) × (l.height < 8)

abbrev pub decreases-loop-height : goal.decreases-loop-height
decreases-loop-height l = l.height
