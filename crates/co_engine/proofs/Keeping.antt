-- Every change of the undecided transactions, as it is kept.
use Rattle.std.proofs.Common.{◌≡◌, ℕ, Bool, true, false, cond, not, List, [], ◌∷◌, map, filter, if◌then◌else◌, Option, None, Some, refl, sym, ap, ◌∙◌}
use Rattle.std.specs.Option.{option_map}
use Rattle.std.specs.FinMap.{entries, entries_sorted, get-entries}
use Rattle.std.specs.FinMap.Entries.{find}
use Rattle.std.specs.Ordering.{nat_cmp}
use Rattle.co_state.specs.declared.engine_state.Operation.{Operation}
use Rattle.co_state.specs.declared.engine_state.Sets.{Sets}
use Rattle.co_state.specs.declared.engine_state.Vote.{Vote}
use Rattle.co_state.specs.Changes.{sets_of, changes_of}
use Rattle.co_state.specs.declared.engine_state.EngineState.{EngineState}
use Rattle.co_state.specs.Effects.{joined, active_changes, voted_changes, undecided_changes}
use Rattle.co_state.specs.Joined.{joined_all}
use Rattle.co_state.specs.Table.{Table, look}
use Rattle.co_engine.specs.declared.undecided.Undecided.{Undecided}
use Rattle.co_engine.specs.Undecided.{active_sets, voted_sets, IsKept, changes_kept}
use Rattle.co_pairs.proofs.Picking.{picked, with_picked, pick_in, same_picked}

abbrev pub pick_active : ℕ → Undecided → Option Sets
pick_active u e = active_sets (Some e)

abbrev pub pick_voted : ℕ → Undecided → Option Sets
pick_voted u e = voted_sets (Some e)

abbrev pub pick_operations : ℕ → List Operation → Option Sets
pick_operations u os = Some (sets_of os)

abbrev pub pick_vote : ℕ → Vote → Option Sets
pick_vote u vote = Some vote.sets

picks_active : (q : ℕ) (o : Option Undecided) → active_sets o ≡ pick_in pick_active q o
picks_active q None = refl
picks_active q (Some e) = refl

picks_voted : (q : ℕ) (o : Option Undecided) → voted_sets o ≡ pick_in pick_voted q o
picks_voted q None = refl
picks_voted q (Some e) = refl

picks_operations : (q : ℕ) (o : Option (List Operation)) → pick_in pick_operations q o ≡ option_map sets_of o
picks_operations q None = refl
picks_operations q (Some os) = refl

picks_vote : (q : ℕ) (o : Option Vote) → pick_in pick_vote q o ≡ option_map (λ v. v.sets) o
picks_vote q None = refl
picks_vote q (Some vote) = refl

-- the active ones by what they read and wrote
pub actives_kept : (roll : Table Undecided) (active : Table (List Operation)) → ((t : ℕ) → option_map sets_of (look active t) ≡ active_sets (look roll t))
    → picked pick_operations (entries active) ≡ picked pick_active (entries roll)
actives_kept roll active is =
    same_picked pick_operations pick_active (entries active) (entries roll) (entries_sorted active) (entries_sorted roll)
    (λ q. picks_operations q (find nat_cmp q (entries active)) ∙ ap (option_map sets_of) (sym (get-entries active q)) ∙ is q ∙ ap active_sets (get-entries roll q) ∙ picks_active q (find nat_cmp q (entries roll)))

-- the voted ones by what they read and wrote
pub voteds_kept : (roll : Table Undecided) (voted : Table Vote) → ((t : ℕ) → option_map (λ v. v.sets) (look voted t) ≡ voted_sets (look roll t))
    → picked pick_vote (entries voted) ≡ picked pick_voted (entries roll)
voteds_kept roll voted is =
    same_picked pick_vote pick_voted (entries voted) (entries roll) (entries_sorted voted) (entries_sorted roll)
    (λ q. picks_vote q (find nat_cmp q (entries voted)) ∙ ap (option_map (λ v. v.sets)) (sym (get-entries voted q)) ∙ is q ∙ ap voted_sets (get-entries roll q) ∙ picks_voted q (find nat_cmp q (entries roll)))

-- ---- every change
active-picked : (es : List (ℕ × List Operation)) → active_changes es ≡ joined_all (map (λ y. y.1.writes) (picked pick_operations es))
active-picked [] = refl
active-picked (e ∷ es) = ap (λ ws. joined (changes_of e.1) ws) (active-picked es)

voted-picked : (es : List (ℕ × Vote)) → voted_changes es ≡ joined_all (map (λ y. y.1.writes) (picked pick_vote es))
voted-picked [] = refl
voted-picked (e ∷ es) = ap (λ ws. joined e.1.sets.writes ws) (voted-picked es)

filter_active : (voted : Bool) (e : ℕ × Undecided) (es fs : List (ℕ × Undecided)) (ys : List (ℕ × Sets)) → map (λ y. y.1.writes) ys ≡ map (λ f. f.1.sets.writes) fs
    → map (λ y. y.1.writes) (with_picked e.0 (if voted then None else Some e.1.sets) ys) ≡ map (λ f. f.1.sets.writes) (cond (not voted) (e ∷ fs) fs)
filter_active true e es fs ys is = is
filter_active false e es fs ys is = ap (λ ws. e.1.sets.writes ∷ ws) is

actives-filter : (es : List (ℕ × Undecided)) → map (λ y. y.1.writes) (picked pick_active es) ≡ map (λ e. e.1.sets.writes) (filter (λ e. not e.1.voted) es)
actives-filter [] = refl
actives-filter (e ∷ es) = filter_active e.1.voted e es (filter (λ f. not f.1.voted) es) (picked pick_active es) (actives-filter es)

filter_voted : (voted : Bool) (e : ℕ × Undecided) (es fs : List (ℕ × Undecided)) (ys : List (ℕ × Sets)) → map (λ y. y.1.writes) ys ≡ map (λ f. f.1.sets.writes) fs
    → map (λ y. y.1.writes) (with_picked e.0 (if voted then Some e.1.sets else None) ys) ≡ map (λ f. f.1.sets.writes) (cond voted (e ∷ fs) fs)
filter_voted true e es fs ys is = ap (λ ws. e.1.sets.writes ∷ ws) is
filter_voted false e es fs ys is = is

voteds-filter : (es : List (ℕ × Undecided)) → map (λ y. y.1.writes) (picked pick_voted es) ≡ map (λ e. e.1.sets.writes) (filter (λ e. e.1.voted) es)
voteds-filter [] = refl
voteds-filter (e ∷ es) = filter_voted e.1.voted e es (filter (λ f. f.1.voted) es) (picked pick_voted es) (voteds-filter es)

changes_alike : (roll : Table Undecided) (active : Table (List Operation)) (voted : Table Vote)
    → ((t : ℕ) → option_map sets_of (look active t) ≡ active_sets (look roll t)) → ((t : ℕ) → option_map (λ v. v.sets) (look voted t) ≡ voted_sets (look roll t))
    → changes_kept (entries roll) ≡ joined (voted_changes (entries voted)) (active_changes (entries active))
changes_alike roll active voted is are = λ i. joined
    ((sym (voted-picked (entries voted) ∙ ap (λ ys. joined_all (map (λ y. y.1.writes) ys)) (voteds_kept roll voted are) ∙ ap joined_all (voteds-filter (entries roll)))) i)
    ((sym (active-picked (entries active) ∙ ap (λ ys. joined_all (map (λ y. y.1.writes) ys)) (actives_kept roll active is) ∙ ap joined_all (actives-filter (entries roll)))) i)

-- those that are kept are those of the state
pub kept_changes : (roll : Table Undecided) (b : EngineState) → ((t : ℕ) → IsKept (look roll t) (look b.active t) (look b.voted t)) → changes_kept (entries roll) ≡ undecided_changes b
kept_changes roll b each = changes_alike roll b.active b.voted (λ t. (each t).sets_are) (λ t. (each t).votes_are)
