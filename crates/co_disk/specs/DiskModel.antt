-- The disk model: what a read gives between two syncs, and what a crash may leave.
use Rattle.std.specs.Prelude.{ℕ, zero, suc, ◌+◌, ◌<◌, ◌≤◌, ◌≡◌, Bool, false, ◌&&◌, ◌||◌, nat_lt, nat_le, if◌then◌else◌, List, [], ◌∷◌, ◌++◌, length, Option, None, Some, slice_get}
use Rattle.co_base.specs.declared.leaves.Leaves.{Leaves}
use Rattle.co_base.specs.declared.leaves.Leaves.TheVariants.{Old, New, Filled}
use Rattle.co_outside.specs.Overlay.{overlaid}

-- a write that is not stable yet: these bytes from this place on
pub record Write : Type 0 where
  pub at : ℕ
  pub piece : List ℕ

-- a disk: its stable bytes, and its pending writes, the oldest first
pub record DiskState : Type 0 where
  pub stable : List ℕ
  pub pending : List Write

-- bytes with writes laid over them, the oldest first
abbrev pub laid_over : List ℕ → List Write → List ℕ
laid_over bytes [] = bytes
laid_over bytes (w ∷ writes) = laid_over (overlaid bytes w.at w.piece) writes

-- a read gives the stable bytes with the pending writes laid over them in order
abbrev pub read_of : DiskState → List ℕ
read_of disk = laid_over disk.stable disk.pending

-- a disk whose bytes are all stable
abbrev pub stable_disk : List ℕ → DiskState
stable_disk bytes = record { stable = bytes; pending = [] }

-- a write more is pending
abbrev pub after_write : DiskState → ℕ → List ℕ → DiskState
after_write disk at piece = record { stable = disk.stable; pending = disk.pending ++ (record { at = at; piece = piece }) ∷ [] }

-- a sync makes the read stable, and nothing is pending
abbrev pub after_sync : DiskState → DiskState
after_sync disk = stable_disk (read_of disk)

-- whether a write covers a place
abbrev pub covers : ℕ → Write → Bool
covers place w = nat_le w.at place && nat_lt place (w.at + length w.piece)

-- whether a pending write covers a place: then it is touched
abbrev pub any_covers : ℕ → List Write → Bool
any_covers place [] = false
any_covers place (w ∷ writes) = covers place w || any_covers place writes

abbrev pub is_touched : DiskState → ℕ → Bool
is_touched disk place = any_covers place disk.pending

-- Bytes that a crash may leave: at least as long as the stable ones, at most as long as a read, and
-- stable wherever no pending write touched them.
pub record IsImage (disk : DiskState) (bytes : List ℕ) : Type 0 where
  pub no_shorter : length disk.stable ≤ length bytes
  pub no_longer : length bytes ≤ length (read_of disk)
  pub untouched : (place : ℕ) → place < length disk.stable → is_touched disk place ≡ false → slice_get bytes place ≡ slice_get disk.stable place

-- how many touched places stand before a place
abbrev pub touched_before : DiskState → ℕ → ℕ
touched_before disk zero = 0
touched_before disk (suc place) = if is_touched disk place then touched_before disk place + 1 else touched_before disk place

-- the first of two bytes that is there
abbrev pub or_else : Option ℕ → Option ℕ → Option ℕ
or_else (Some byte) other = Some byte
or_else None other = other

-- The byte that the choice leaves at a place: of the old image the stable one, of the new one the
-- read one. Filling gives its bytes to the touched places in ascending order; where it has none for
-- a touched place, the stable byte stays, and behind the stable bytes nothing is.
abbrev pub left_at : DiskState → Leaves → ℕ → Option ℕ
left_at disk Old place = slice_get disk.stable place
left_at disk New place = slice_get (read_of disk) place
left_at disk (Filled bytes) place = if is_touched disk place then or_else (slice_get bytes (touched_before disk place)) (slice_get disk.stable place) else slice_get disk.stable place

-- the bytes that the choice leaves
abbrev pub IsChosen : DiskState → Leaves → List ℕ → Type 0
IsChosen disk leaves bytes = (place : ℕ) → slice_get bytes place ≡ left_at disk leaves place

-- each write begins within the bytes that it is laid over
abbrev pub AreWithin : List ℕ → List Write → Type 0
AreWithin bytes [] = Unit {0}
AreWithin bytes (w ∷ writes) = (w.at ≤ length bytes) × AreWithin (overlaid bytes w.at w.piece) writes

-- each pending write begins within what a read gave before it
abbrev pub IsSound : DiskState → Type 0
IsSound disk = AreWithin disk.stable disk.pending
