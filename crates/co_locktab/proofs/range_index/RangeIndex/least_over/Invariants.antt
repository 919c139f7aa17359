use Rattle.std.proofs.Common.{None, ◌-◌}
use Rattle.co_locktab.specs.Places.{IsIndexed, IsFirstFrom}
use Rattle.co_locktab.specs.Weighed.{Weighs}
use Rattle.co_locktab.proofs.Looking.{SeenUpTo}
use Rattle.co_locktab.proofs.Starting.{start_of}
use Rattle.co_locktab.proofs.range_index.RangeIndex.least_over.Given as goal

abbrev pub invariant-loop-shared : goal.invariant-loop-shared
invariant-loop-shared l = record {
  weighed : IsIndexed l.self.held l.self.forks → Weighs l.self.held l.key l.t None l.least (SeenUpTo l.key l.shared);
  known : IsFirstFrom l.self.forks.lower (start_of l.key (l.shared - 1)) l.next;
}
