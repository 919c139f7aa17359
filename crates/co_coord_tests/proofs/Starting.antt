-- What a fresh log tells.
use Rattle.std.proofs.Common.{◌≡◌, ℕ, List, [], ◌∷◌, refl, sym, ap, ◌∙◌, arith}
use Rattle.std.specs.Prelude.{map, length}
use Rattle.std.specs.FinMap.{entries, len-entries, len-empty}
use Rattle.std.specs.Ordering.{nat_cmp}
use Rattle.co_plain.specs.CoordView.{no_commits}
use Rattle.co_recover.specs.Recovered.{decided_of, past_of_coord}
use Rattle.co_recover.specs.declared.past.CoordPast.{CoordPast}
use Rattle.co_recover.specs.declared.past.Decided.{Decided}
use Rattle.co_state.specs.Table.{no_entries}

nothing_in : {X : Type 0} (xs : List X) → length xs ≡ 0 → xs ≡ []
nothing_in [] none = refl
nothing_in (x ∷ xs) none = absurd (omega (arith, none))

no_entries_in : (X : Type 0) → entries (no_entries {X = X}) ≡ []
no_entries_in X = nothing_in (entries (no_entries {X = X})) (sym (len-entries (no_entries {X = X})) ∙ len-empty nat_cmp X)

abbrev pub past : List Decided → List ℕ → CoordPast
past committed seen = record { committed = committed; seen = seen }

pub nothing_past : (committed : List Decided) (seen : List ℕ) → committed ≡ [] → seen ≡ [] → past committed seen ≡ past_of_coord no_commits
nothing_past committed seen nobody nothing =
    ap (λ (ds : List Decided). past ds seen) (nobody ∙ sym (ap (map decided_of) (no_entries_in (List ℕ)))) ∙ ap (λ (ts : List ℕ). past (past_of_coord no_commits).committed ts) (nothing ∙ sym (ap (map (λ (e : ℕ × Unit {0}). e.0)) (no_entries_in (Unit {0}))))
