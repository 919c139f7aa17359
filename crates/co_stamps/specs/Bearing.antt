-- Which transactions bear which numbers.
use Rattle.std.specs.Prelude.{◌≡◌, ℕ, Bool, false, ◌==◌, List, [], ◌∷◌, length, if◌then◌else◌, Option, None, Some}
use Rattle.std.specs.FinMap.{FinMap, entries}
use Rattle.std.specs.Ordering.{nat_cmp, eq_by_cmp}
use Rattle.co_state.specs.Table.{Table, no_entries, look, put, without, holds}

abbrev pub Bearers : Type 0
Bearers = FinMap nat_cmp (FinMap nat_cmp (Unit {0}))

abbrev pub or_nobody : Option (Table (Unit {0})) → Table (Unit {0})
or_nobody None = no_entries
or_nobody (Some txns) = txns

-- whether a transaction bears a number
abbrev pub bears : Bearers → ℕ → ℕ → Bool
bears m number t = holds (or_nobody (look m number)) t

abbrev pub with_bearer : Bearers → ℕ → ℕ → Bearers
with_bearer m number t = put m number (put (or_nobody (look m number)) t tt)

abbrev pub without_in : Bearers → ℕ → ℕ → Option (Table (Unit {0})) → Bearers
without_in m number t None = m
without_in m number t (Some txns) = put m number (without txns t)

abbrev pub without_bearer : Bearers → ℕ → ℕ → Bearers
without_bearer m number t = without_in m number t (look m number)

-- a number stands there that nobody bears
abbrev pub is_nobody : Option (Table (Unit {0})) → Bool
is_nobody None = false
is_nobody (Some txns) = length (entries txns) == 0

abbrev pub settled : Bearers → ℕ → Bearers
settled m number = if is_nobody (look m number) then without m number else m

-- the number of the last entry
abbrev pub number_or : ℕ → Option ℕ → ℕ
number_or number None = number
number_or number (Some later) = later

abbrev pub last_of : {X : Type 0} → List (ℕ × X) → Option ℕ
last_of [] = None
last_of (e ∷ es) = Some (number_or e.0 (last_of es))

abbrev pub is_number : ℕ → Option ℕ → Bool
is_number number None = false
is_number number (Some other) = eq_by_cmp nat_cmp other number

-- each number is borne by the transactions that have it, and by no other one
pub record Agree (numbers : Table ℕ) (bearers : Bearers) : Type 0 where
  pub same : (number t : ℕ) → bears bearers number t ≡ is_number number (look numbers t)
  pub borne : (number : ℕ) → is_nobody (look bearers number) ≡ false
