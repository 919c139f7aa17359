use Rattle.std.proofs.Common.{◌≡◌, ◌≤◌, ◌++◌, ◌-◌}
use Rattle.co_check.specs.Stages.{coords_to}
use Rattle.co_check.proofs.reader.push_coords.Given as goal

abbrev pub invariant-loop-coord : goal.invariant-loop-coord
invariant-loop-coord l = (l.coord ≤ l.count) × (l.into ≡ l.initial.into ++ coords_to l.coord)

abbrev pub decreases-loop-coord : goal.decreases-loop-coord
decreases-loop-coord l = l.count - l.coord
