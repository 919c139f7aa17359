use Rattle.std.proofs.Common.{◌≡◌, map, drop}
use Rattle.co_locktab.specs.Holding.{without_all}
use Rattle.co_locktab.specs.Places.{IsIndexed}
use Rattle.co_locktab.proofs.lock_table.end_ranges.Given as goal

abbrev pub invariant-loop-range : goal.invariant-loop-range
invariant-loop-range l =
    (without_all l.readers (map (λ s. s.lo) (drop l.range-index l.ranges)) l.t ≡ without_all l.initial.readers (map (λ s. s.lo) l.ranges) l.t)
    × (without_all l.wide_readers.held (drop l.range-index l.ranges) l.t ≡ without_all l.initial.wide_readers.held l.ranges l.t)
    × (IsIndexed l.initial.wide_readers.held l.initial.wide_readers.forks → IsIndexed l.wide_readers.held l.wide_readers.forks)
