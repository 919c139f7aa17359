-- The least undecided transaction above a number is the first entry above it.
use Rattle.std.proofs.Common.{◌≡◌, ℕ, Bool, true, false, ◌||◌, nat_lt, List, Option, None, Some, refl, sym, ap, ◌∙◌}
use Rattle.co_state.specs.declared.engine_state.EngineState.{EngineState}
use Rattle.co_state.specs.declared.engine_state.Operation.{Operation}
use Rattle.co_state.specs.declared.engine_state.Vote.{Vote}
use Rattle.co_state.specs.Table.{Table, look, least_where}
use Rattle.co_plain.specs.declared.member_state.AskedMark.{AskedMark}
use Rattle.co_undecided.specs.declared.entry.Entry.{Entry}
use Rattle.co_undecided.specs.Kept.{entry_at, entry_of, next_open}
use Rattle.co_undecided.proofs.Least.{least_once, least_of, least_of_both, passed, table_least}

pub next_is : (es : Table Entry) (b : EngineState) (asked : Table AskedMark) (after : ℕ) → ((t : ℕ) → look es t ≡ entry_at b asked t) →
    least_where (λ u x. nat_lt after u) es ≡ next_open b after
next_is es b asked after shown =
    least_once (λ u. passed (λ v x. nat_lt after v) u (look es u)) _ _ (table_least (λ v x. nat_lt after v) es)
    (least_of (λ u. passed (λ v os. nat_lt after v) u (look b.active u) || passed (λ v vote. nat_lt after v) u (look b.voted u)) (λ u. passed (λ v x. nat_lt after v) u (look es u)) (next_open b after) same
    (least_of_both _ _ _ _ (table_least (λ v os. nat_lt after v) b.active) (table_least (λ v vote. nat_lt after v) b.voted)))
  where
    twice : (a : Bool) → (a || a) ≡ a
    twice true = refl
    twice false = refl

    or_not : (a : Bool) → (a || false) ≡ a
    or_not true = refl
    or_not false = refl

    by : (u : ℕ) (os : Option (List Operation)) (vote : Option Vote) (mark : Option AskedMark) →
        (passed (λ v x. nat_lt after v) u os || passed (λ v x. nat_lt after v) u vote) ≡ passed (λ v x. nat_lt after v) u (entry_of os vote mark)
    by u None None mark = refl
    by u None (Some vote) mark = refl
    by u (Some os) None mark = or_not (nat_lt after u)
    by u (Some os) (Some vote) mark = twice (nat_lt after u)

    same : (u : ℕ) → (passed (λ v os. nat_lt after v) u (look b.active u) || passed (λ v vote. nat_lt after v) u (look b.voted u)) ≡ passed (λ v x. nat_lt after v) u (look es u)
    same u = by u (look b.active u) (look b.voted u) (look asked u) ∙ ap (passed (λ v x. nat_lt after v) u) (sym (shown u))
