-- What a home that twists gives.
use Rattle.std.specs.Prelude.{ℕ, ◌+◌, ◌-◌, ◌^◌, ◌==◌, ◌&&◌, min, nat_le, Bool, if◌then◌else◌, List, slice_set}
use Rattle.co_outside.specs.declared.spot.Spot.{Spot}
use Rattle.co_outside.specs.declared.home_twist.HomeTwist.{HomeTwist}

-- whether it is the spot of the file that is twisted
abbrev pub is_its_spot : HomeTwist → Spot → Bool
is_its_spot home spot = (spot.node == home.spot.node) && (spot.part == home.spot.part)

-- how many reads of the twisted file there were, after one more read at a spot
abbrev pub reads_after : HomeTwist → Spot → ℕ
reads_after home spot = if is_its_spot home spot then min (home.reads + 1) (2 ^ 32 - 1) else home.reads

-- what a read at a spot gives of these bytes: from the named read of the twisted file on, with the wrong byte at its place
abbrev pub twisted : HomeTwist → Spot → List ℕ → List ℕ
twisted home spot bytes = if is_its_spot home spot && nat_le home.from (reads_after home spot) then slice_set bytes home.at home.byte else bytes
