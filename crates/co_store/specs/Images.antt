-- What stands at keys, a value or none: the images that lead back, and the slots of a store.
use Rattle.std.specs.Prelude.{ℕ, List, [], ◌∷◌, if◌then◌else◌, Option, None, Some, is_some}
use Rattle.std.specs.FinMap.{FinMap, empty, get, insert, remove, contains_key}
use Rattle.co_base.specs.Order.{key_cmp}
use Rattle.co_base.specs.declared.row.Row.{Row}
use Rattle.co_store.specs.declared.slots.Slot.{Slot}

abbrev pub Images : Type 0
Images = FinMap key_cmp Slot

-- the value of a slot; none where there is no slot
abbrev pub value_in : Option Slot → Option (List ℕ)
value_in None = None
value_in (Some slot) = slot.value

abbrev pub slot_of : Option (List ℕ) → Slot
slot_of value = record { value = value }

-- a key that is there gets a value
abbrev pub replaced : Images → List ℕ → Option (List ℕ) → Images
replaced m key value = if contains_key m key then insert m key (slot_of value) else m

-- a value is put in place; no value takes the key away
abbrev pub restored : Images → List ℕ → Option (List ℕ) → Images
restored m key None = remove m key
restored m key (Some value) = replaced m key (Some value)

abbrev pub restored_all : Images → List (List ℕ × Slot) → Images
restored_all m [] = m
restored_all m (e ∷ es) = restored_all (restored m e.0 e.1.value) es

-- a key without a value is taken away
abbrev pub settled : Images → List ℕ → Images
settled m key = if is_some (value_in (get m key)) then m else remove m key

abbrev pub settled_all : Images → List (List ℕ × Slot) → Images
settled_all m [] = m
settled_all m (e ∷ es) = settled_all (settled m e.0) es

abbrev pub or_nothing : Option Images → Images
or_nothing None = empty
or_nothing (Some m) = m

-- what a key held is kept at the first write alone
abbrev pub with_image : Images → List ℕ → Option (List ℕ) → Images
with_image m key before = if contains_key m key then m else insert m key (slot_of before)

-- a slot for each row
abbrev pub slots_from : List Row → Images
slots_from [] = empty
slots_from (r ∷ rs) = insert (slots_from rs) r.key (slot_of (Some r.value))
