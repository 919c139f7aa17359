use Rattle.co_locktab.specs.Places.{IsIndexed}
use Rattle.co_locktab.specs.Weighed.{Weighs}
use Rattle.co_locktab.proofs.Looking.{SeenFrom}
use Rattle.co_locktab.proofs.range_index.RangeIndex.least_beside.Given as goal

abbrev pub invariant-loop-height : goal.invariant-loop-height
invariant-loop-height l = IsIndexed l.self.held l.self.forks → Weighs l.self.held l.key l.t l.initial.least l.least (SeenFrom l.first l.byte l.height)
