-- Tables by transaction number. Everything said of a table goes through `look`, `put` and `without`.
use Rattle.std.specs.Prelude.{ℕ, Bool, true, nat_lt, List, [], ◌∷◌, if◌then◌else◌, Option, None, Some, is_some, min}
use Rattle.std.specs.FinMap.{FinMap, empty, entries, get, insert, remove}
use Rattle.std.specs.Ordering.{nat_cmp}

abbrev pub Table : Type 0 → Type 0
Table X = FinMap nat_cmp X

abbrev pub no_entries : {X : Type 0} → Table X
no_entries = empty

abbrev pub look : {X : Type 0} → Table X → ℕ → Option X
look table t = get table t

abbrev pub put : {X : Type 0} → Table X → ℕ → X → Table X
put table t entry = insert table t entry

abbrev pub without : {X : Type 0} → Table X → ℕ → Table X
without table t = remove table t

-- whether there is an entry for the number
abbrev pub holds : {X : Type 0} → Table X → ℕ → Bool
holds table t = is_some (look table t)

-- the least number whose entry passes the test
abbrev pub first_in : {X : Type 0} → (ℕ → X → Bool) → List (ℕ × X) → Option ℕ
first_in test [] = None
first_in test (e ∷ es) = if test e.0 e.1 then Some e.0 else first_in test es

abbrev pub least_where : {X : Type 0} → (ℕ → X → Bool) → Table X → Option ℕ
least_where test table = first_in test (entries table)

-- the number of the first entry
abbrev pub first_of : {X : Type 0} → List (ℕ × X) → Option ℕ
first_of [] = None
first_of (e ∷ es) = Some e.0

-- above a number, where there is one
abbrev pub is_above : Option ℕ → ℕ → Bool
is_above None t = true
is_above (Some u) t = nat_lt u t

-- the lesser of two numbers, where there are any
abbrev pub lesser : Option ℕ → Option ℕ → Option ℕ
lesser None other = other
lesser (Some t) None = Some t
lesser (Some t) (Some u) = Some (min t u)
