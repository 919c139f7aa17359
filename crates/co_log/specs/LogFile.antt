-- A log file as its writer keeps it: records, and behind them a gate that is not open.
use Rattle.std.specs.Prelude.{◌≡◌, ℕ, ◌+◌, ◌==◌, ◌⊎◌, Bool, true, false, Option, Some, None, List, [], ◌∷◌, ◌++◌, length, map}
use Rattle.std.specs.List.{flat_map}
use Rattle.co_frame.specs.LogText.{IsGated, gated, open_gate}
use Rattle.co_record.specs.declared.record.Record.{Record}
use Rattle.co_record.specs.Format.{newest}
use Rattle.co_record.specs.Spelling.{spelling}
use Rattle.co_record.specs.Stored.{HoldRecords}

-- records of the newest version that stand one after another from a place on, each with its place
abbrev pub placed_from : ℕ → List Record → List (ℕ × Record)
placed_from at [] = []
placed_from at (item ∷ items) = (at, item) ∷ placed_from (at + length (spelling newest item)) items

-- the records alone, oldest first
abbrev pub records_of : List (ℕ × Record) → List Record
records_of items = map (λ p. p.1) items

-- the bytes of records as they are written, one after another
abbrev pub spelled : List Record → List ℕ
spelled items = flat_map (spelling newest) items

-- The file has these records of a version in front of the gate at this place, which is not open.
pub record EndsIn (version : ℕ) (bytes : List ℕ) (gate : ℕ) (items : List (ℕ × Record)) : Type 0 where
  pub batches : List (List ℕ)
  pub text : IsGated bytes batches
  pub place : gate ≡ length (gated batches)
  pub holds : HoldRecords version 0 batches items

-- so it has records of the newest version
abbrev pub EndsAt : List ℕ → ℕ → List (ℕ × Record) → Type 0
EndsAt = EndsIn newest

-- whether a byte is there and is that of an open gate
abbrev pub opened : Option ℕ → Bool
opened None = false
opened (Some byte) = byte == open_gate

-- the first gate that is not open, after a log write that added these records, or did not
abbrev pub next_gate : Bool → ℕ → List Record → ℕ
next_gate true gate more = gate + 5 + length (spelled more)
next_gate false gate more = gate

-- the records of the file then
abbrev pub next_items : Bool → ℕ → List (ℕ × Record) → List Record → List (ℕ × Record)
next_items true gate items more = items ++ placed_from (gate + 5) more
next_items false gate items more = items

-- the file then
abbrev pub EndsAfter : Bool → List ℕ → ℕ → List (ℕ × Record) → List Record → Type 0
EndsAfter stable bytes gate items more = EndsAt bytes (next_gate stable gate more) (next_items stable gate items more)

-- the file has the old records, or with them the new ones
abbrev pub OldOrBoth : List ℕ → ℕ → List (ℕ × Record) → List Record → Type 0
OldOrBoth bytes gate items more = EndsAfter false bytes gate items more ⊎ EndsAfter true bytes gate items more
