use Rattle.std.proofs.Common.{◌≡◌, drop, option_copied}
use Rattle.std.specs.FinMap.{entries}
use Rattle.co_mv.specs.Ordered.{AreOrdered}
use Rattle.co_mv.specs.Overwritten.{written_within}
use Rattle.co_state.specs.Keys.{least_key}
use Rattle.co_state.specs.Search.{least_with}
use Rattle.co_mv.proofs.stale.least_written.Given as goal

abbrev pub invariant-loop-range : goal.invariant-loop-range
invariant-loop-range l =
    AreOrdered (entries l.chains)
    → least_with (option_copied l.least) (written_within l.installs (entries l.chains) (drop l.range-index l.ranges)) ≡ least_key (written_within l.installs (entries l.chains) l.ranges)
