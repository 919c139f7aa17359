-- A store as plain data: the records as they are, and for each unfinished transaction what the keys that it
-- wrote held before its first write there (undo by before-images, Bernstein, Hadzilacos and Goodman 1987).
use Rattle.std.specs.Prelude.{ℕ, ◌≡◌, ◌≢◌, false, List, [], ◌∷◌, Option, None, Some}
use Rattle.std.specs.FinMap.{entries, get, contains_key}
use Rattle.co_base.specs.declared.row.Row.{Row}
use Rattle.co_serial.specs.Records.{Records, with_change}
use Rattle.co_state.specs.Effects.{records_from}
use Rattle.co_state.specs.Table.{Table, no_entries, look, put, without}
use Rattle.co_store.specs.declared.slots.Slot.{Slot}
use Rattle.co_store.specs.Images.{Images, or_nothing, with_image}

pub record StoreState : Type 0 where
  pub now : Records
  pub undos : Table Images

abbrev pub state_of_rows : List Row → StoreState
state_of_rows rows = record { now = records_from rows; undos = no_entries }

-- what a transaction keeps
abbrev pub images_of : StoreState → ℕ → Images
images_of s t = or_nothing (look s.undos t)

-- no other transaction keeps what the key held
abbrev pub IsFree : StoreState → ℕ → List ℕ → Type 0
IsFree s t key = (u : ℕ) → u ≢ t → contains_key (images_of s u) key ≡ false

-- a write in place; the first one of a key keeps what was there
abbrev pub with_put : StoreState → ℕ → List ℕ → Option (List ℕ) → StoreState
with_put s t key value = record {
  now = with_change s.now key value;
  undos = put s.undos t (with_image (images_of s t) key (get s.now key));
}

-- images laid back over records
abbrev pub laid_back : Records → List (List ℕ × Slot) → Records
laid_back records [] = records
laid_back records (e ∷ es) = laid_back (with_change records e.0 e.1.value) es

abbrev pub with_undone : StoreState → ℕ → StoreState
with_undone s t = record { now = laid_back s.now (entries (images_of s t)); undos = without s.undos t }

abbrev pub with_kept : StoreState → ℕ → StoreState
with_kept s t = record s { undos = without s.undos t }

-- the records before each unfinished transaction's first write of each key
abbrev pub all_laid_back : Records → List (ℕ × Images) → Records
all_laid_back records [] = records
all_laid_back records (e ∷ es) = all_laid_back (laid_back records (entries e.1)) es

abbrev pub clean_records : StoreState → Records
clean_records s = all_laid_back s.now (entries s.undos)

-- the record of a slot, if it has a value
abbrev pub noted : Records → List ℕ → Option (List ℕ) → Records
noted records key None = records
noted records key (Some value) = with_change records key (Some value)

abbrev pub all_noted : Records → List (List ℕ × Slot) → Records
all_noted records [] = records
all_noted records (e ∷ es) = all_noted (noted records e.0 e.1.value) es
