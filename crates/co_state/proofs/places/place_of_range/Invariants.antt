use Rattle.std.proofs.Common.{◌≡◌, ◌++◌, take, drop}
use Rattle.co_state.specs.Changes.{put_span}
use Rattle.co_state.proofs.places.place_of_range.Given as goal

abbrev pub invariant-loop-place : goal.invariant-loop-place
invariant-loop-place l = put_span l.range l.ranges ≡ take l.place l.ranges ++ put_span l.range (drop l.place l.ranges)
