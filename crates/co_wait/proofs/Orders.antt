-- What is known where all chains end is the order.
use Rattle.std.proofs.Common.{◌≡◌, ◌≢◌, ℕ, suc, ◌+◌, ◌<◌, ◌≤◌, ◌⊎◌, inl, inr, Bool, true, false, cond, List, [], ◌∷◌, map, length, get_or, Option, None, Some, refl, sym, ap, ◌∙◌, subst, arith}
use Rattle.std.specs.Prelude.{All, AllPairs, Any, Contains, is_some}
use Rattle.std.specs.FinMap.{entries, entries_sorted, get-entries}
use Rattle.std.specs.FinMap.Entries.{find}
use Rattle.std.specs.Ordering.{nat_cmp, eq_by_cmp}
use Rattle.std.proofs.lemmas.Bool.{cases_lt, cases_order}
use Rattle.std.proofs.lemmas.List.{get_or-map, length-map}
use Rattle.std.proofs.lemmas.List.Elements.{All-nil, All-cons}
use Rattle.std.proofs.lemmas.Map.Keys.{below_from_sorted}
use Rattle.co_state.specs.Table.{Table, look, holds, no_entries}
use Rattle.co_law_base.proofs.Lookups.{same_number, found_holds, holds_found, look_none}
use Rattle.co_law_base.proofs.ImageRules.{EachEntry, each_entry}
use Rattle.co_recover.proofs.Ascending.{keys_ascend}
use Rattle.co_wait.specs.declared.knot.Rank.{Rank}
use Rattle.co_wait.specs.declared.search.Progress.{Progress}
use Rattle.co_wait.specs.declared.search.Progress.TheVariants.{Open, Ended}
use Rattle.co_wait.specs.declared.wait.Wait.{Wait}
use Rattle.co_wait.specs.Chains.{IsWaitBefore, IsInWaits, IsRank}
use Rattle.co_wait.specs.Knots.{IsOrder}
use Rattle.co_wait.specs.Searching.{IsAtPlace, IsKnownToEnd, NoneIsOpen, IsBetweenSearches, IsNextFirst, ranked_of, rank_in}
use Rattle.co_wait.proofs.Places.{same_at, held_rises}

any_cons : (P : Rank → Type 0) (r : Rank) (ranks : List Rank) → Any P ranks → Any P (r ∷ ranks)
any_cons P r ranks any = (suc any.0, any.1, omega (arith, any.2), any.3, any.4)

-- a known transaction has its rank among them
found_rank : (es : List (ℕ × Progress)) (t : ℕ) (x : Progress) → find nat_cmp t es ≡ Some x → Any (λ r. r.txn ≡ t) (map ranked_of es)
found_rank [] t x e = absurd (let z : None ≡ Some x = e in cc)
found_rank (f ∷ es) t x e = by (found_rank es t x) (eq_by_cmp nat_cmp t f.0) refl
  where
    by : (find nat_cmp t es ≡ Some x → Any (λ r. r.txn ≡ t) (map ranked_of es)) → (b : Bool) → eq_by_cmp nat_cmp t f.0 ≡ b → Any (λ r. r.txn ≡ t) (ranked_of f ∷ map ranked_of es)
    by rest true same = (0, ranked_of f, omega arith, refl, sym (same_number t f.0 same))
    by rest false other = any_cons (λ r. r.txn ≡ t) (ranked_of f) (map ranked_of es) (rest (sym (ap (λ b. cond b (Some f.1) (find nat_cmp t es)) other) ∙ e))

-- what holds of each entry holds of each rank
all_ranks : (P : ℕ → Progress → Type 0) (Q : Rank → Type 0) (es : List (ℕ × Progress)) → ((t : ℕ) (x : Progress) → P t x → Q (ranked_of (t, x))) → EachEntry P es → All Q (map ranked_of es)
all_ranks P Q [] f each = All-nil Q
all_ranks P Q (e ∷ es) f each = All-cons Q (ranked_of e) (map ranked_of es) (f e.0 e.1 each.0) (all_ranks P Q es f each.1)

module _ (waits : List Wait) (known : Table Progress) (rest : IsBetweenSearches waits known) (all : (w : Wait) → Contains waits w → IsKnownToEnd known w.held) where
  rank_of_entry : (t : ℕ) (x : Progress) → look known t ≡ Some x → IsRank waits t (rank_in x)
  rank_of_entry t Open e = absurd (rest.none t e)
  rank_of_entry t (Ended rank) e = rest.so_far.ranked t rank e

  each : EachEntry (λ t x. look known t ≡ Some x) (entries known)
  each = each_entry (λ t x. look known t ≡ Some x) (entries known) (entries_sorted known) (λ t x e. get-entries known t ∙ e)

  listed : (t : ℕ) → IsInWaits waits t → Any (λ r. r.txn ≡ t) (map ranked_of (entries known))
  listed t one = by (all one.1 (one.0, one.2, one.3)) one.4
    where
      of_ended : (u : ℕ) → IsKnownToEnd known u → Any (λ r. r.txn ≡ u) (map ranked_of (entries known))
      of_ended u ended = found_rank (entries known) u (Ended ended.0) (sym (get-entries known u) ∙ ended.1)

      by : IsKnownToEnd known one.1.held → (one.1.held ≡ t) ⊎ (one.1.by ≡ t) → Any (λ r. r.txn ≡ t) (map ranked_of (entries known))
      by ended (inl e) = subst (λ u. Any (λ r. r.txn ≡ u) (map ranked_of (entries known))) e (of_ended one.1.held ended)
      by ended (inr e) =
          subst (λ u. Any (λ r. r.txn ≡ u) (map ranked_of (entries known))) e
          (of_ended one.1.by (rest.so_far.onward one.1.held ended.0 ended.1 one.1 (one.0, one.2, one.3) refl))

  among : All (λ r. IsInWaits waits r.txn) (map ranked_of (entries known))
  among = all_ranks (λ t x. look known t ≡ Some x) (λ r. IsInWaits waits r.txn) (entries known) (λ t x e. rest.so_far.among t (found_holds known t x e)) each

  below : (i j : ℕ) (d : Rank) → i < j → j < length (map ranked_of (entries known)) → (get_or (map ranked_of (entries known)) i d).txn < (get_or (map ranked_of (entries known)) j d).txn
  below i j d lt in_range =
      let size : length (map ranked_of (entries known)) ≡ length (entries known) = length-map (entries known) ranked_of in
      let keys : length (map (λ e. e.0) (entries known)) ≡ length (entries known) = length-map (entries known) (λ e. e.0) in
      let jn : j < length (entries known) = omega arith in
      let d' : ℕ × Progress = (0, Open) in
      let less = below_from_sorted (map (λ e. e.0) (entries known)) i j 0 (keys_ascend known) lt (omega arith) in
      subst (λ n. n < (get_or (map ranked_of (entries known)) j d).txn) (get_or-map (λ e. e.0) (entries known) i d' 0 (omega arith) ∙ sym (ap (λ (r : Rank). r.txn) (get_or-map ranked_of (entries known) i d' d (omega arith))))
      (subst (λ n. get_or (map (λ e. e.0) (entries known)) i 0 < n) (get_or-map (λ e. e.0) (entries known) j d' 0 jn ∙ sym (ap (λ (r : Rank). r.txn) (get_or-map ranked_of (entries known) j d' d jn))) less)

  pub order_known : IsOrder waits (map ranked_of (entries known))
  order_known = record {
    ascending = below;
    whole = λ t. (listed t, λ any. subst (IsInWaits waits) any.4 (subst (λ (r : Rank). IsInWaits waits r.txn) any.3 (among any.0 any.1 any.2)));
    ranked = all_ranks (λ t x. look known t ≡ Some x) (λ r. IsRank waits r.txn r.rank) (entries known) rank_of_entry each;
  }

-- ---- the walk over the waits

pub none_among : (known : Table Progress) → NoneIsOpen known → All (λ e. e.1 ≢ Open) (entries known)
none_among known none = all_entries (entries known) (each_entry (λ t x. look known t ≡ Some x) (entries known) (entries_sorted known) (λ t x e. get-entries known t ∙ e))
  where
    not_open : (t : ℕ) (x : Progress) → look known t ≡ Some x → x ≢ Open
    not_open t x e same = none t (e ∙ ap Some same)

    all_entries : (es : List (ℕ × Progress)) → EachEntry (λ t x. look known t ≡ Some x) es → All (λ e. e.1 ≢ Open) es
    all_entries [] h = All-nil (λ (e : ℕ × Progress). e.1 ≢ Open)
    all_entries (e ∷ es) h = All-cons (λ (f : ℕ × Progress). f.1 ≢ Open) e es (not_open e.0 e.1 h.0) (all_entries es h.1)

pub rest_at_first : (waits : List Wait) → IsBetweenSearches waits no_entries
rest_at_first waits = record {
  so_far = record {
    ranked = λ t rank e. never t (Ended rank) e;
    onward = λ t rank e w c own. never t (Ended rank) e;
    among = λ t h. nobody t h;
    numbers = λ t h. nobody t h;
  };
  none = λ t e. never t Open e;
  counted = λ t rank e. never t (Ended rank) e;
}
  where
    never : {A : Type 0} → (t : ℕ) (x : Progress) → look no_entries t ≡ Some x → A
    never t x e = absurd (let z : None ≡ Some x = sym (look_none t) ∙ e in cc)

    nobody : {A : Type 0} → (t : ℕ) → holds (no_entries {X = Progress}) t ≡ true → A
    nobody t h = let f = holds_found (no_entries {X = Progress}) t h in never t f.0 f.1

pub known_ended : (waits : List Wait) (known : Table Progress) (t : ℕ) → IsBetweenSearches waits known → holds known t ≡ true → IsKnownToEnd known t
known_ended waits known t rest h = let f = holds_found known t h in by f.0 f.1
  where
    by : (x : Progress) → look known t ≡ Some x → IsKnownToEnd known t
    by Open e = absurd (rest.none t e)
    by (Ended rank) e = (rank, e)

pub not_known : (known : Table Progress) (t : ℕ) → holds known t ≡ false → look known t ≡ None
not_known known t h = by (look known t) refl h
  where
    by : (o : Option Progress) → look known t ≡ o → is_some o ≡ false → look known t ≡ None
    by None e k = e
    by (Some x) e k = absurd (let z : true ≡ false = k in cc)

pub ended_more : (waits : List Wait) (known : Table Progress) (index : ℕ) (item : Wait) → IsAtPlace waits index item → IsKnownToEnd known item.held →
    ((i : ℕ) (w : Wait) → i < index → IsAtPlace waits i w → IsKnownToEnd known w.held) → (i : ℕ) (w : Wait) → i < index + 1 → IsAtPlace waits i w → IsKnownToEnd known w.held
ended_more waits known index item here ended before i w lt at = by (cases_lt i index)
  where
    by : (i < index) ⊎ (index ≤ i) → IsKnownToEnd known w.held
    by (inl less) = before i w less at
    by (inr past) =
        let e : i ≡ index = omega arith in
        subst (λ (x : Wait). IsKnownToEnd known x.held) (same_at waits index item w here (subst (λ k. IsAtPlace waits k w) e at)) ended

pub next_first : (waits : List Wait) (known : Table Progress) (index : ℕ) (item : Wait) → AllPairs IsWaitBefore waits → IsBetweenSearches waits known → IsAtPlace waits index item → holds known item.held ≡ false →
    ((i : ℕ) (w : Wait) → i < index → IsAtPlace waits i w → IsKnownToEnd known w.held) → IsNextFirst waits known item.held
next_first waits known index item ordered rest here missing before = record {
  rest = rest;
  one = (index, item, here.0, here.1, refl);
  unknown = not_known known item.held missing;
  before = λ w c lt. by w c lt (cases_order c.0 index);
}
  where
    by : (w : Wait) (c : Contains waits w) → w.held < item.held → (c.0 ≡ index) ⊎ ((c.0 < index) ⊎ (index < c.0)) → IsKnownToEnd known w.held
    by w c lt (inl e) =
        let same : item ≡ w = same_at waits index item w here (subst (λ k. IsAtPlace waits k w) e (c.1, c.2)) in
        let held : item.held ≡ w.held = ap (λ (x : Wait). x.held) same in
        absurd (omega arith)
    by w c lt (inr (inl less)) = before c.0 w less (c.1, c.2)
    by w c lt (inr (inr more)) = let up : item.held ≤ w.held = held_rises waits ordered index c.0 item w more here (c.1, c.2) in absurd (omega arith)
