use Rattle.std.proofs.Common.{◌≡◌, ◌++◌, take, drop}
use Rattle.co_state.specs.Changes.{put_change}
use Rattle.co_state.proofs.places.place_of_change.Given as goal

abbrev pub invariant-loop-place : goal.invariant-loop-place
invariant-loop-place l = put_change l.change l.changes ≡ take l.place l.changes ++ put_change l.change (drop l.place l.changes)
