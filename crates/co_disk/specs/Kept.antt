-- What a disk keeps: what a read gives, and each pending write with the bytes that it laid and those
-- that stood there before.
use Rattle.std.specs.Prelude.{ℕ, ◌+◌, ◌<◌, ◌≤◌, ◌≡◌, List, [], ◌∷◌, ◌++◌, length, take, drop, map, Option, None, Some}
use Rattle.co_base.specs.Limits.{most_log_bytes}
use Rattle.co_disk.specs.declared.touched.FirstByte.{FirstByte}
use Rattle.co_disk.specs.declared.touched.Touched.{Touched}
use Rattle.co_disk.specs.DiskModel.{Write, DiskState, laid_over, AreWithin}

-- a pending write, and the bytes that stood in its range before; the old end may lie within it
pub record Entry : Type 0 where
  pub at : ℕ
  pub piece : List ℕ
  pub before : List ℕ

abbrev pub entry_of : Touched → Entry
entry_of t = record { at = t.at; piece = t.piece.items; before = t.before.items }

abbrev pub first_entry : FirstByte → Entry
first_entry f = record { at = f.at; piece = f.byte ∷ []; before = f.before ∷ [] }

-- the pending writes, the oldest first
abbrev pub entries : Option FirstByte → List Touched → List Entry
entries None touched = map entry_of touched
entries (Some first) touched = first_entry first ∷ map entry_of touched

abbrev pub write_of : Entry → Write
write_of e = record { at = e.at; piece = e.piece }

-- the bytes with one write taken back
abbrev pub taken_back : List ℕ → Entry → List ℕ
taken_back bytes e = take e.at bytes ++ e.before ++ drop (e.at + length e.piece) bytes

-- the bytes with all writes taken back, the newest first
abbrev pub undone : List ℕ → List Entry → List ℕ
undone bytes [] = bytes
undone bytes (e ∷ es) = taken_back (undone bytes es) e

-- the disk that stands behind a read and its writes
abbrev pub state_of : List ℕ → List Entry → DiskState
state_of bytes es = record { stable = undone bytes es; pending = map write_of es }

-- the write lies within the bytes, and the old end lies in its range only where it is at their end
pub record IsFit (bytes : List ℕ) (e : Entry) : Type 0 where
  pub within : e.at + length e.piece ≤ length bytes
  pub no_longer : length e.before ≤ length e.piece
  pub short : length e.before < length e.piece → e.at + length e.piece ≡ length bytes

abbrev pub AreFit : List ℕ → List Entry → Type 0
AreFit bytes [] = Unit {0}
AreFit bytes (e ∷ es) = IsFit (undone bytes es) e × AreFit bytes es

-- what is kept of a disk belongs together
pub record IsKept (bytes : List ℕ) (es : List Entry) : Type 0 where
  pub read : laid_over (undone bytes es) (map write_of es) ≡ bytes
  pub sound : AreWithin (undone bytes es) (map write_of es)
  pub fit : AreFit bytes es
  pub short : length bytes ≤ most_log_bytes

-- the disk whose stable bytes are the front of these
abbrev pub disk_over : List ℕ → ℕ → List Entry → DiskState
disk_over bytes len es = record { stable = take len bytes; pending = map write_of es }
