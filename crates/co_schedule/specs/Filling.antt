-- How a reader of lines fills its buffer.
use Rattle.std.specs.Prelude.{ℕ, ◌≡◌, ◌+◌, ◌≤◌, List, ◌++◌, length, position, Option, None, Some}
use Rattle.co_outside.specs.Onward.{Past, IsOnward}
use Rattle.co_schedule.specs.LineText.{is_newline}
use Rattle.co_schedule.specs.declared.lines.Held.{Held}
use Rattle.co_schedule.specs.declared.lines.Held.TheVariants.{Line, Rest, Full}
use Rattle.co_schedule.specs.declared.fault.LinesFault.{LinesFault}
use Rattle.co_schedule.specs.declared.fault.LinesFault.TheVariants as fault
use Rattle.co_schedule.specs.declared.lines.Lines.{Lines}

-- at least one byte stands behind what was held
abbrev pub IsGrown : List ℕ → List ℕ → Type 0
IsGrown held_old held_new = (piece : List ℕ) × (held_new ≡ held_old ++ piece) × (1 ≤ length piece)

-- the bytes that the source gave stand behind what was held
abbrev pub IsAdded : List ℕ → List ℕ → List ℕ → List ℕ → Type 0
IsAdded gave_old gave_new held_old held_new = (given : List ℕ) × (gave_new ≡ gave_old ++ given) × (held_new ≡ held_old ++ given)

-- what is held and what the source has left are together what they were
abbrev pub IsTakenFrom : {S : Type 0} → (S → Option (List ℕ)) → S → S → List ℕ → List ℕ → Type 0
IsTakenFrom left source_old source_new held_old held_new = (bytes : List ℕ) → left source_old ≡ Some bytes → (rest : List ℕ) × (left source_new ≡ Some rest) × (held_new ++ rest ≡ held_old ++ bytes)

-- of what was held and what the source had left, all but so many bytes at most is left
abbrev pub IsWithin : {S : Type 0} → (S → Option (List ℕ)) → S → S → List ℕ → ℕ → Type 0
IsWithin left source_old source_new held room = (bytes after : List ℕ) → left source_old ≡ Some bytes → left source_new ≡ Some after → length held + length bytes ≤ length after + room

-- the limits and the count of lines lent are those from before
pub record HasSameLimits (old new : Lines) : Type 0 where
  pub line : new.line ≡ old.line
  pub lines : new.lines ≡ old.lines
  pub lent : new.lent ≡ old.lent

-- what the buffer holds at its front
abbrev pub IsHeld : Lines → Held → Type 0
IsHeld reader (Line end) = position is_newline reader.buffer.items ≡ Some end
IsHeld reader Rest = (position is_newline reader.buffer.items ≡ None) × (length reader.buffer.items ≤ reader.line)
IsHeld reader Full = (position is_newline reader.buffer.items ≡ None) × (length reader.buffer.items ≡ reader.line + 1)

-- the source failed, or there was no memory
abbrev pub IsOfSource : LinesFault → Type 0
IsOfSource fault.Read = Unit {0}
IsOfSource fault.Memory = Unit {0}
IsOfSource (fault.Long line) = ⊥
IsOfSource fault.Many = ⊥

-- The buffer was filled with bytes of the source, which did not fail, and still holds no newline.
pub record IsFilling {S : Type 0} (left : S → Option (List ℕ)) (faults : S → ℕ) (at : S → Past) (source_old source_new : S) (old new : Lines) : Type 0 where
  pub none : position is_newline new.buffer.items ≡ None
  pub taken : IsTakenFrom left source_old source_new old.buffer.items new.buffer.items
  pub same : HasSameLimits old new
  pub used : (new.used ≡ old.used) × (new.shown ≡ old.shown)
  pub counts : faults source_new ≡ faults source_old
  pub onward : IsOnward (at source_old) (at source_new)
  pub added : IsAdded (at source_old).gave (at source_new).gave old.buffer.items new.buffer.items
