-- Files that are kept in memory, each once, and which of them are clean.
use Rattle.std.specs.Prelude.{ℕ, ◌+◌, ◌*◌, ◌==◌, ◌&&◌, Bool, true, if◌then◌else◌, List, [], ◌∷◌, slice_index_or}
use Rattle.co_outside.specs.declared.spot.Spot.{Spot}
use Rattle.co_outside.specs.declared.stored.Stored.{Stored}

-- whether it is the file of the spot
abbrev pub is_of : Spot → Stored → Bool
is_of spot stored = (stored.spot.node == spot.node) && (stored.spot.part == spot.part)

-- the bytes of the file of a spot; an absent file is empty
abbrev pub bytes_at : List Stored → Spot → List ℕ
bytes_at [] spot = []
bytes_at (stored ∷ rest) spot = if is_of spot stored then stored.bytes.items else bytes_at rest spot

-- where the mark of a spot of part 0 or 1 stands
abbrev pub mark_place : Spot → ℕ
mark_place spot = 2 * spot.node + spot.part

-- whether the file of a spot is clean
abbrev pub clean_at : List Bool → Spot → Bool
clean_at marks spot = slice_index_or marks (mark_place spot) true
