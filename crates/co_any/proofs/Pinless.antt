-- A table without entries has none to be seen and none to be taken out.
use Rattle.std.proofs.Common.{◌≡◌, ℕ, Bool, true, false, cond, Option, None, refl, sym, ap, ◌∙◌}
use Rattle.std.specs.FinMap.{get-empty}
use Rattle.std.specs.Ordering.{nat_cmp, eq_by_cmp}
use Rattle.co_state.proofs.Tables.{look-without, same_table}
use Rattle.co_state.specs.Table.{Table, look, without, no_entries}

pub none_seen : (pins : Table ℕ) (id : ℕ) → pins ≡ no_entries → look pins id ≡ None
none_seen pins id none = ap (λ m. look m id) none ∙ get-empty nat_cmp id

either_same : (b : Bool) (o : Option ℕ) → cond b o o ≡ o
either_same true o = refl
either_same false o = refl

none_without : (id : ℕ) → without (no_entries {X = ℕ}) id ≡ no_entries
none_without id = same_table _ _ (λ u.
    look-without no_entries id u ∙ ap (cond (eq_by_cmp nat_cmp u id) None) (get-empty nat_cmp u) ∙ either_same (eq_by_cmp nat_cmp u id) None ∙ sym (get-empty nat_cmp u))

pub none_taken : (pins : Table ℕ) (id : ℕ) → pins ≡ no_entries → pins ≡ without pins id
none_taken pins id none = none ∙ sym (ap (λ m. without m id) none ∙ none_without id)
