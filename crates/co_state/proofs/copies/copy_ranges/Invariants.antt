use Rattle.std.proofs.Common.{◌≡◌, take}
use Rattle.co_state.proofs.copies.copy_ranges.Given as goal

abbrev pub invariant-loop-range : goal.invariant-loop-range
invariant-loop-range l = l.copy.items ≡ take l.range-index l.ranges
