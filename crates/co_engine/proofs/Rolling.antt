-- What is kept of each transaction, after each call.
use Rattle.std.proofs.Common.{◌≡◌, ℕ, Bool, true, false, cond, List, ◌∷◌, if◌then◌else◌, Option, None, Some, is_some, IsTrue, refl, sym, ap, ◌∙◌, true≢false}
use Rattle.std.specs.Option.{option_map}
use Rattle.std.specs.Ordering.{nat_cmp, eq_by_cmp}
use Rattle.co_base.specs.declared.op.Op.{Op}
use Rattle.co_state.specs.declared.engine_state.EngineState.{EngineState}
use Rattle.co_state.specs.declared.engine_state.Operation.{Operation}
use Rattle.co_state.specs.declared.engine_state.Sets.{Sets}
use Rattle.co_state.specs.declared.engine_state.Vote.{Vote}
use Rattle.co_state.specs.Changes.{sets_of, no_sets}
use Rattle.co_state.specs.EngineState.{operations_in, operations_of, sets_in}
use Rattle.co_state.specs.Table.{Table, look, put, without, holds}
use Rattle.co_state.proofs.Tables.{look-put, look-without, put-without}
use Rattle.co_engine.proofs.Answering.{cond-same}
use Rattle.co_engine.specs.declared.undecided.Undecided.{Undecided}
use Rattle.co_engine.specs.Undecided.{grown_by, active_with, voted_with, or_new, own, with_vote, vote_in, IsKept, active_sets, voted_sets}
use Rattle.co_pairs.proofs.Picking.{tied}

pub kept_along : {o o' : Option Undecided} {os os' : Option (List Operation)} {vote vote' : Option Vote} → o ≡ o' → os ≡ os' → vote ≡ vote' → IsKept o os vote → IsKept o' os' vote'
kept_along e f g k = record {
  sets_are = ap (option_map sets_of) (sym f) ∙ k.sets_are ∙ ap active_sets e;
  votes_are = ap (option_map (λ v. v.sets)) (sym g) ∙ k.votes_are ∙ ap voted_sets e;
}

pub kept_cond : (c : Bool) {o o' : Option Undecided} {os os' : Option (List Operation)} {vote vote' : Option Vote} → (c ≡ true → IsKept o os vote) → (c ≡ false → IsKept o' os' vote')
    → IsKept (cond c o o') (cond c os os') (cond c vote vote')
kept_cond true f g = f refl
kept_cond false f g = g refl

pub nothing_kept : IsKept None None None
nothing_kept = record { sets_are = refl; votes_are = refl }

-- ---- what is kept of one transaction
pub none_mapped : {A B : Type 0} (f : A → B) (o : Option A) → option_map f o ≡ None → o ≡ None
none_mapped f None e = refl
none_mapped f (Some a) e = absurd (let g : Some (f a) ≡ None = e in cc)

seen_voted : (vote : Option Vote) (os : List Operation) (sets : Sets) → option_map (λ v. v.sets) vote ≡ Some sets → sets_in vote os ≡ sets
seen_voted None os sets e = absurd (let g : None ≡ Some sets = e in cc)
seen_voted (Some v) os sets e = let g : Some v.sets ≡ Some sets = e in cc

seen_active : (os : Option (List Operation)) (sets : Sets) → option_map sets_of os ≡ Some sets → sets_of (operations_in os) ≡ sets
seen_active None sets e = absurd (let g : None ≡ Some sets = e in cc)
seen_active (Some os) sets e = let g : Some (sets_of os) ≡ Some sets = e in cc

seen_none : (os : Option (List Operation)) (vote : Option Vote) → option_map sets_of os ≡ None → option_map (λ v. v.sets) vote ≡ None → sets_in vote (operations_in os) ≡ no_sets
seen_none os vote e f = (λ i. sets_in (none_mapped (λ v. v.sets) vote f i) (operations_in (none_mapped sets_of os e i)))

seen_by_flag : (voted : Bool) (e : Undecided) (os : Option (List Operation)) (vote : Option Vote)
    → option_map sets_of os ≡ (if voted then None else Some e.sets) → option_map (λ v. v.sets) vote ≡ (if voted then Some e.sets else None) → sets_in vote (operations_in os) ≡ e.sets
seen_by_flag true e os vote f g = seen_voted vote (operations_in os) e.sets g
seen_by_flag false e os vote f g = ap (λ v. sets_in v (operations_in os)) (none_mapped (λ v. v.sets) vote g) ∙ seen_active os e.sets f

pub sets_kept : (o : Option Undecided) (os : Option (List Operation)) (vote : Option Vote) → IsKept o os vote → sets_in vote (operations_in os) ≡ (or_new o).sets
sets_kept None os vote k = seen_none os vote k.sets_are k.votes_are
sets_kept (Some e) os vote k = seen_by_flag e.voted e os vote k.sets_are k.votes_are

pub own_kept : (roll : Table Undecided) (b : EngineState) (t : ℕ) → IsKept (look roll t) (look b.active t) (look b.voted t) → look b.voted t ≡ None → sets_of (operations_of b t) ≡ (own roll t).sets
own_kept roll b t k none = ap (λ v. sets_in v (operations_of b t)) (sym none) ∙ sets_kept (look roll t) (look b.active t) (look b.voted t) k

-- ---- an operation
pub each_with : (roll : Table Undecided) (b : EngineState) (t : ℕ) (e : Undecided) (os : List Operation) → ((u : ℕ) → IsKept (look roll u) (look b.active u) (look b.voted u)) → look b.voted t ≡ None
    → IsKept (Some e) (Some os) None → (u : ℕ) → IsKept (look (put (without roll t) t e) u) (look (put b.active t os) u) (look b.voted u)
each_with roll b t e os each none k u =
    kept_along (sym (look-put roll t e u) ∙ ap (λ m. look m u) (sym (put-without roll t e))) (sym (look-put b.active t os u)) (cond-same (eq_by_cmp nat_cmp u t) (look b.voted u))
    (kept_cond (eq_by_cmp nat_cmp u t)
    (λ y. kept_along refl refl (sym (ap (look b.voted) (tied u t y) ∙ none)) k)
    (λ n. each u))

pub each_grown : (roll : Table Undecided) (b : EngineState) (t : ℕ) (op : Op) (stamp : ℕ) → ((u : ℕ) → IsKept (look roll u) (look b.active u) (look b.voted u)) → look b.voted t ≡ None
    → (u : ℕ) → IsKept (look (put (without roll t) t (active_with (grown_by op (own roll t).sets))) u) (look (put b.active t (record { op = op; stamp = stamp } ∷ operations_of b t)) u) (look b.voted u)
each_grown roll b t op stamp each none =
    each_with roll b t _ _ each none (record {
      sets_are = λ i. Some (grown_by op (own_kept roll b t (each t) none i));
      votes_are = refl;
    })

-- ---- a vote
some_flag : (voted : Bool) (e : Undecided) (sets : Sets) → Some sets ≡ (if voted then None else Some e.sets) → voted ≡ false
some_flag true e sets is = absurd (let f : Some sets ≡ None = is in cc)
some_flag false e sets is = refl

cast_at : (roll : Table Undecided) (b : EngineState) (t coord count : ℕ) (o : Option Undecided) (a : Option (List Operation)) → ((u : ℕ) → IsKept (look roll u) (look b.active u) (look b.voted u)) → look roll t ≡ o → is_some a ≡ true
    → IsKept o a (look b.voted t) → (u : ℕ) → IsKept (look (vote_in roll t o) u) (look (without b.active t) u) (look (put b.voted t (record { coord = coord; count = count; sets = sets_of (operations_in a) })) u)
cast_at roll b t coord count o None each e h k u = absurd (true≢false (sym h))
cast_at roll b t coord count None (Some os) each e h k u = absurd (let g : Some (sets_of os) ≡ None = k.sets_are in cc)
cast_at roll b t coord count (Some x) (Some os) each e h k u =
    let active = some_flag x.voted x (sets_of os) k.sets_are in
    kept_along (sym (look-put roll t (record x { voted = true }) u)) (sym (look-without b.active t u)) (sym (look-put b.voted t _ u))
    (kept_cond (eq_by_cmp nat_cmp u t)
    (λ y. record {
      sets_are = refl;
      votes_are = k.sets_are ∙ ap (λ v. if v then None else Some x.sets) active;
    })
    (λ n. each u))

pub each_cast : (roll : Table Undecided) (b : EngineState) (t coord count : ℕ) → ((u : ℕ) → IsKept (look roll u) (look b.active u) (look b.voted u)) → IsTrue (holds b.active t)
    → (u : ℕ) → IsKept (look (with_vote roll t) u) (look (without b.active t) u) (look (put b.voted t (record { coord = coord; count = count; sets = sets_of (operations_of b t) })) u)
each_cast roll b t coord count each h = cast_at roll b t coord count (look roll t) (look b.active t) each refl h (each t)

-- ---- an end
pub each_gone : (roll : Table Undecided) (b : EngineState) (t : ℕ) → ((u : ℕ) → IsKept (look roll u) (look b.active u) (look b.voted u))
    → (u : ℕ) → IsKept (look (without roll t) u) (look (without b.active t) u) (look (without b.voted t) u)
each_gone roll b t each u =
    kept_along (sym (look-without roll t u)) (sym (look-without b.active t u)) (sym (look-without b.voted t u)) (kept_cond (eq_by_cmp nat_cmp u t) (λ y. nothing_kept) (λ n. each u))

pub each_installed : (roll : Table Undecided) (b : EngineState) (t : ℕ) → ((u : ℕ) → IsKept (look roll u) (look b.active u) (look b.voted u)) → look b.active t ≡ None
    → (u : ℕ) → IsKept (look (without roll t) u) (look b.active u) (look (without b.voted t) u)
each_installed roll b t each none u =
    kept_along (sym (look-without roll t u)) (cond-same (eq_by_cmp nat_cmp u t) (look b.active u)) (sym (look-without b.voted t u))
    (kept_cond (eq_by_cmp nat_cmp u t) (λ y. kept_along refl (sym (ap (look b.active) (tied u t y) ∙ none)) refl nothing_kept) (λ n. each u))

-- ---- a prepared transaction
pub each_voted : (roll : Table Undecided) (active : Table (List Operation)) (voted : Table Vote) (t : ℕ) (vote : Vote) → ((u : ℕ) → IsKept (look roll u) (look active u) (look voted u)) → look active t ≡ None
    → (u : ℕ) → IsKept (look (put roll t (voted_with vote.sets)) u) (look active u) (look (put voted t vote) u)
each_voted roll active voted t vote each none u =
    kept_along (sym (look-put roll t _ u)) (cond-same (eq_by_cmp nat_cmp u t) (look active u)) (sym (look-put voted t vote u))
    (kept_cond (eq_by_cmp nat_cmp u t) (λ y. kept_along refl (sym (ap (look active) (tied u t y) ∙ none)) refl (record { sets_are = refl; votes_are = refl })) (λ n. each u))
