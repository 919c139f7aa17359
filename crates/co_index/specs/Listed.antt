-- Keys among others.
use Rattle.std.specs.Prelude.{ℕ, Bool, List, map, filter}
use Rattle.std.specs.List.{list_any}
use Rattle.co_state.specs.Keys.{same_key}

abbrev pub has_key : List (List ℕ) → List ℕ → Bool
has_key keys key = list_any (λ k. same_key k key) keys

-- the keys of the entries that pass a test
abbrev pub keys_that : {X : Type 0} → (X → Bool) → List (List ℕ × X) → List (List ℕ)
keys_that test es = map (λ e. e.0) (filter (λ e. test e.1) es)
