-- The tests of a knot pass where it holds.
use Rattle.std.proofs.Common.{◌≡◌, ◌≢◌, ℕ, zero, suc, ◌<◌, ◌⊎◌, inl, inr, Bool, true, false, not, ◌&&◌, ◌||◌, ◌==◌, nat_lt, List, [], ◌∷◌, length, get_or, Option, None, Some, cond, refl, sym, ap, ◌∙◌, subst, arith}
use Rattle.std.specs.Prelude.{All, AllPairs, Any, Contains}
use Rattle.std.specs.List.{list_any, list_all}
use Rattle.std.proofs.lemmas.Bool.{and_parts, and_from, or_cases, or_left, or_right, eqb-true, eq-eqb, cases_Bool, not_from_false, cond-true, cond-false}
use Rattle.std.proofs.lemmas.Bool.Decides.{nat_tests}
use Rattle.std.proofs.lemmas.List.Folds.{Any-from_list_any, list_any-from_Any}
use Rattle.std.proofs.lemmas.List.{get_or_default}
use Rattle.std.proofs.lemmas.List.Sums.{AllPass-from_list_all, list_all-from_AllPass}
use Rattle.std.proofs.lemmas.List.Elements.{All-contains}
use Rattle.co_wait.specs.declared.knot.Knot.{Knot}
use Rattle.co_wait.specs.declared.knot.Knot.TheVariants.{Cycle, Order}
use Rattle.co_wait.specs.declared.knot.Rank.{Rank}
use Rattle.co_wait.specs.declared.wait.Wait.{Wait}
use Rattle.co_wait.specs.Chains.{IsInWaits}
use Rattle.co_wait.specs.Holding.{LeadOn, GoRound, CycleHolds, OrderHolds, KnotHolds}
use Rattle.co_wait.specs.Testing.{same_wait, has_wait, leads_on, goes_round, all_apart, in_waits, rank_of, is_below, falls, cycle_test, order_test, knot_test}

-- ---- lists

module _ {X : Type 0} (number : X → ℕ) where
  pairs_cons : (x : X) (xs : List X) → All (λ y. number x ≢ number y) xs → AllPairs (λ x y. number x ≢ number y) xs → AllPairs (λ x y. number x ≢ number y) (x ∷ xs)
  pairs_cons x xs first rest zero zero d lt in_range = absurd (omega arith)
  pairs_cons x xs first rest zero (suc j) d lt in_range = first j d (omega (arith, in_range))
  pairs_cons x xs first rest (suc i) zero d lt in_range = absurd (omega arith)
  pairs_cons x xs first rest (suc i) (suc j) d lt in_range = rest i j d (omega arith) (omega (arith, in_range))

  pairs_head : (x : X) (xs : List X) → AllPairs (λ x y. number x ≢ number y) (x ∷ xs) → All (λ y. number x ≢ number y) xs
  pairs_head x xs all k d lt = all 0 (suc k) d (omega arith) (omega (arith, lt))

  pairs_tail : (x : X) (xs : List X) → AllPairs (λ x y. number x ≢ number y) (x ∷ xs) → AllPairs (λ x y. number x ≢ number y) xs
  pairs_tail x xs all i j d lt in_range = all (suc i) (suc j) d (omega arith) (omega (arith, in_range))

  none_same : (x : X) (xs : List X) → list_any (λ y. number y == number x) xs ≡ false → All (λ y. number x ≢ number y) xs
  none_same x xs none k d lt same =
      let one : list_any (λ y. number y == number x) xs ≡ true = list_any-from_Any (λ y. number y == number x) xs (k, get_or xs k d, lt, get_or_default xs k (get_or xs k d) d lt, eq-eqb (number (get_or xs k d)) (number x) (sym same)) in
      let z : true ≡ false = sym one ∙ none in cc

  same_none : (x : X) (xs : List X) → All (λ y. number x ≢ number y) xs → list_any (λ y. number y == number x) xs ≡ false
  same_none x xs all = by (cases_Bool (list_any (λ y. number y == number x) xs))
    where
      by : (list_any (λ y. number y == number x) xs ≡ true) ⊎ (list_any (λ y. number y == number x) xs ≡ false) → list_any (λ y. number y == number x) xs ≡ false
      by (inl found) =
          let any = Any-from_list_any (λ y. number y == number x) xs found in
          absurd (subst (λ y. number x ≢ number y) any.3 (all any.0 any.1 any.2) (sym (eqb-true (number any.1) (number x) any.4)))
      by (inr none) = none

  pub apart_pairs : (xs : List X) → all_apart number xs ≡ true → AllPairs (λ x y. number x ≢ number y) xs
  apart_pairs [] h = λ i j d lt in_range. absurd (let past : j < 0 = in_range in omega arith)
  apart_pairs (x ∷ xs) h = by (apart_pairs xs) (and_parts (not (list_any (λ y. number y == number x) xs)) (all_apart number xs) h)
    where
      by : (all_apart number xs ≡ true → AllPairs (λ x y. number x ≢ number y) xs) → (not (list_any (λ y. number y == number x) xs) ≡ true) × (all_apart number xs ≡ true) → AllPairs (λ x y. number x ≢ number y) (x ∷ xs)
      by rest two = pairs_cons x xs (none_same x xs (not_true _ two.0)) (rest two.1)
        where
          not_true : (b : Bool) → not b ≡ true → b ≡ false
          not_true true e = absurd (let z : false ≡ true = e in cc)
          not_true false e = refl

  pub pairs_apart : (xs : List X) → AllPairs (λ x y. number x ≢ number y) xs → all_apart number xs ≡ true
  pairs_apart [] h = refl
  pairs_apart (x ∷ xs) h = and_from _ _ (not_from_false _ (same_none x xs (pairs_head x xs h))) (pairs_apart xs (pairs_tail x xs h))

-- ---- cycles

same_true : (v w : Wait) → same_wait v w ≡ true → v ≡ w
same_true v w h =
    let first = and_parts (v.member == w.member) ((v.held == w.held) && (v.by == w.by)) h in
    let others = and_parts (v.held == w.held) (v.by == w.by) first.1 in
    let m = eqb-true v.member w.member first.0 in
    let t = eqb-true v.held w.held others.0 in
    let u = eqb-true v.by w.by others.1 in
    λ i. record { member = m i; held = t i; by = u i }

true_same : (v w : Wait) → v ≡ w → same_wait v w ≡ true
true_same v w e =
    and_from (v.member == w.member) ((v.held == w.held) && (v.by == w.by)) (eq-eqb v.member w.member (ap (λ (x : Wait). x.member) e))
    (and_from (v.held == w.held) (v.by == w.by) (eq-eqb v.held w.held (ap (λ (x : Wait). x.held) e)) (eq-eqb v.by w.by (ap (λ (x : Wait). x.by) e)))

one_from : (waits : List Wait) (w : Wait) → has_wait waits w ≡ true → Contains waits w
one_from waits w h =
    let any = Any-from_list_any (λ v. same_wait v w) waits h in
    subst (Contains waits) (same_true any.1 w any.4) (any.0, any.2, any.3)

has_from : (waits : List Wait) (w : Wait) → Contains waits w → has_wait waits w ≡ true
has_from waits w c = list_any-from_Any (λ v. same_wait v w) waits (c.0, w, c.1, c.2, true_same w w refl)

lead_from : (legs : List Wait) (t u : ℕ) → leads_on t legs u ≡ true → LeadOn t legs u
lead_from [] t u h = eqb-true t u h
lead_from (w ∷ legs) t u h = let two = and_parts (t == w.held) (leads_on w.by legs u) h in (eqb-true t w.held two.0, lead_from legs w.by u two.1)

from_lead : (legs : List Wait) (t u : ℕ) → LeadOn t legs u → leads_on t legs u ≡ true
from_lead [] t u h = eq-eqb t u h
from_lead (w ∷ legs) t u h = and_from (t == w.held) (leads_on w.by legs u) (eq-eqb t w.held h.0) (from_lead legs w.by u h.1)

round_from : (legs : List Wait) → goes_round legs ≡ true → GoRound legs
round_from [] h = let z : false ≡ true = h in cc
round_from (w ∷ legs) h = lead_from legs w.by w.held h

from_round : (legs : List Wait) → GoRound legs → goes_round legs ≡ true
from_round [] h = absurd h
from_round (w ∷ legs) h = from_lead legs w.by w.held h

pub cycle_from_test : (waits legs : List Wait) → cycle_test waits legs ≡ true → CycleHolds waits legs
cycle_from_test waits legs h =
    let outer = and_parts (list_all (has_wait waits) legs && all_apart (λ w. w.held) legs) (goes_round legs) h in
    let inner = and_parts (list_all (has_wait waits) legs) (all_apart (λ w. w.held) legs) outer.0 in
    record {
      own = λ k d lt. one_from waits (get_or legs k d) (AllPass-from_list_all (has_wait waits) legs inner.0 k d lt);
      distinct = apart_pairs (λ w. w.held) legs inner.1;
      round = round_from legs outer.1;
    }

pub test_from_cycle : (waits legs : List Wait) → CycleHolds waits legs → cycle_test waits legs ≡ true
test_from_cycle waits legs h =
    and_from _ _
    (and_from _ _ (list_all-from_AllPass (has_wait waits) legs (λ k d lt. has_from waits (get_or legs k d) (h.own k d lt))) (pairs_apart (λ w. w.held) legs h.distinct))
    (from_round legs h.round)

-- ---- orders

in_from : (waits : List Wait) (t : ℕ) → in_waits waits t ≡ true → IsInWaits waits t
in_from waits t h = let any = Any-from_list_any (λ w. (w.held == t) || (w.by == t)) waits h in (any.0, any.1, any.2, any.3, by any.1 (or_cases (any.1.held == t) (any.1.by == t) any.4))
  where
    by : (w : Wait) → ((w.held == t) ≡ true) ⊎ ((w.by == t) ≡ true) → (w.held ≡ t) ⊎ (w.by ≡ t)
    by w (inl e) = inl (eqb-true w.held t e)
    by w (inr e) = inr (eqb-true w.by t e)

from_in : (waits : List Wait) (t : ℕ) → IsInWaits waits t → in_waits waits t ≡ true
from_in waits t one = list_any-from_Any (λ w. (w.held == t) || (w.by == t)) waits (one.0, one.1, one.2, one.3, by one.4)
  where
    by : (one.1.held ≡ t) ⊎ (one.1.by ≡ t) → ((one.1.held == t) || (one.1.by == t)) ≡ true
    by (inl e) = or_left (one.1.held == t) (one.1.by == t) (eq-eqb one.1.held t e)
    by (inr e) = or_right (one.1.held == t) (one.1.by == t) (eq-eqb one.1.by t e)

-- the rank that is found stands there
rank_stands : (ranks : List Rank) (t rank : ℕ) → rank_of ranks t ≡ Some rank → (r : Rank) × Contains ranks r × (r.txn ≡ t) × (r.rank ≡ rank)
rank_stands [] t rank e = absurd (let z : None ≡ Some rank = e in cc)
rank_stands (r ∷ ranks) t rank e = by (rank_stands ranks t rank) (cases_Bool (r.txn == t))
  where
    by : (rank_of ranks t ≡ Some rank → (r : Rank) × Contains ranks r × (r.txn ≡ t) × (r.rank ≡ rank)) → ((r.txn == t) ≡ true) ⊎ ((r.txn == t) ≡ false) → (s : Rank) × Contains (r ∷ ranks) s × (s.txn ≡ t) × (s.rank ≡ rank)
    by rest (inl same) = (r, (0, omega arith, refl), eqb-true r.txn t same, some_same (sym (cond-true (r.txn == t) (Some r.rank) (rank_of ranks t) same) ∙ e))
      where
        some_same : {a b : ℕ} → Some a ≡ Some b → a ≡ b
        some_same e = cc
    by rest (inr other) =
        let found = rest (sym (cond-false (r.txn == t) (Some r.rank) (rank_of ranks t) other) ∙ e) in
        (found.0, (suc found.1.0, omega (arith, found.1.1), found.1.2), found.2, found.3)

-- and where each stands once, one that stands there is found
pub rank_found : (ranks : List Rank) (s : Rank) → AllPairs (λ r s. r.txn ≢ s.txn) ranks → Contains ranks s → rank_of ranks s.txn ≡ Some s.rank
rank_found [] s once c = absurd (let lt : c.0 < 0 = c.1 in omega arith)
rank_found (r ∷ ranks) s once c = by (rank_found ranks s (pairs_tail (λ (x : Rank). x.txn) r ranks once)) c.0 c.1 c.2
  where
    by : (Contains ranks s → rank_of ranks s.txn ≡ Some s.rank) → (k : ℕ) → k < length (r ∷ ranks) → get_or (r ∷ ranks) k s ≡ s → cond (r.txn == s.txn) (Some r.rank) (rank_of ranks s.txn) ≡ Some s.rank
    by rest zero lt is = cond-true (r.txn == s.txn) (Some r.rank) (rank_of ranks s.txn) (eq-eqb r.txn s.txn (ap (λ (x : Rank). x.txn) is)) ∙ ap (λ (x : Rank). Some x.rank) is
    by rest (suc k) lt is =
        let apart : r.txn ≢ s.txn = subst (λ (x : Rank). r.txn ≢ x.txn) is (pairs_head (λ (x : Rank). x.txn) r ranks once k s (omega (arith, lt))) in
        cond-false (r.txn == s.txn) (Some r.rank) (rank_of ranks s.txn) (not_same r.txn s.txn apart) ∙ rest (k, omega (arith, lt), is)
      where
        not_same : (a b : ℕ) → a ≢ b → (a == b) ≡ false
        not_same a b n = grind (arith, nat_tests, n)

-- a wait that falls leads from a rank to a lesser one
below_parts : (o p : Option ℕ) → is_below o p ≡ true → (a : ℕ) × (b : ℕ) × (o ≡ Some a) × (p ≡ Some b) × (a < b)
below_parts (Some a) (Some b) h = (a, b, refl, refl, less a b h)
  where
    less : (a b : ℕ) → nat_lt a b ≡ true → a < b
    less a b h = grind (arith, nat_tests, h)
below_parts (Some a) None h = absurd (let z : false ≡ true = h in cc)
below_parts None p h = absurd (let z : false ≡ true = h in cc)

one_rank : (ranks : List Rank) (t rank : ℕ) → rank_of ranks t ≡ Some rank → Any (λ r. r.txn ≡ t) ranks
one_rank ranks t rank e = let r = rank_stands ranks t rank e in (r.1.0, r.0, r.1.1, r.1.2, r.2)

pub some_rank : {a b : ℕ} → Some a ≡ Some b → a ≡ b
some_rank e = cc

pub order_from_test : (waits : List Wait) (ranks : List Rank) → order_test waits ranks ≡ true → OrderHolds waits ranks
order_from_test waits ranks h = record {
  once = once;
  whole = λ t. (λ one. stands t one, λ any. subst (IsInWaits waits) any.4 (subst (λ (r : Rank). IsInWaits waits r.txn) any.3 (in_from waits (get_or ranks any.0 any.1).txn (AllPass-from_list_all (λ r. in_waits waits r.txn) ranks inner.1 any.0 any.1 any.2))));
  falls = λ w r s c cr cs own onward. lesser w r s c cr cs own onward;
}
  where
    outer : (all_apart (λ r. r.txn) ranks && list_all (λ r. in_waits waits r.txn) ranks ≡ true) × (list_all (falls ranks) waits ≡ true)
    outer = and_parts (all_apart (λ r. r.txn) ranks && list_all (λ r. in_waits waits r.txn) ranks) (list_all (falls ranks) waits) h

    inner : (all_apart (λ (r : Rank). r.txn) ranks ≡ true) × (list_all (λ r. in_waits waits r.txn) ranks ≡ true)
    inner = and_parts (all_apart (λ r. r.txn) ranks) (list_all (λ r. in_waits waits r.txn) ranks) outer.0

    once : AllPairs (λ r s. r.txn ≢ s.txn) ranks
    once = apart_pairs (λ r. r.txn) ranks inner.0

    parts : (w : Wait) → Contains waits w → (a : ℕ) × (b : ℕ) × (rank_of ranks w.by ≡ Some a) × (rank_of ranks w.held ≡ Some b) × (a < b)
    parts w c = below_parts (rank_of ranks w.by) (rank_of ranks w.held) (All-contains (λ w. falls ranks w ≡ true) waits w (AllPass-from_list_all (falls ranks) waits outer.1) c)

    stands : (t : ℕ) → IsInWaits waits t → Any (λ r. r.txn ≡ t) ranks
    stands t one = by (parts one.1 (one.0, one.2, one.3)) one.4
      where
        by : (a : ℕ) × (b : ℕ) × (rank_of ranks one.1.by ≡ Some a) × (rank_of ranks one.1.held ≡ Some b) × (a < b) → (one.1.held ≡ t) ⊎ (one.1.by ≡ t) → Any (λ r. r.txn ≡ t) ranks
        by p (inl e) = subst (λ u. Any (λ r. r.txn ≡ u) ranks) e (one_rank ranks one.1.held p.1 p.3)
        by p (inr e) = subst (λ u. Any (λ r. r.txn ≡ u) ranks) e (one_rank ranks one.1.by p.0 p.2)

    lesser : (w : Wait) (r s : Rank) → Contains waits w → Contains ranks r → Contains ranks s → r.txn ≡ w.held → s.txn ≡ w.by → s.rank < r.rank
    lesser w r s c cr cs own onward =
        let p = parts w c in
        let low : s.rank ≡ p.0 = some_rank (sym (rank_found ranks s once cs) ∙ ap (rank_of ranks) onward ∙ p.2) in
        let high : r.rank ≡ p.1 = some_rank (sym (rank_found ranks r once cr) ∙ ap (rank_of ranks) own ∙ p.3) in
        let less : p.0 < p.1 = p.4 in
        omega arith

pub test_from_order : (waits : List Wait) (ranks : List Rank) → OrderHolds waits ranks → order_test waits ranks ≡ true
test_from_order waits ranks h =
    and_from _ _
    (and_from _ _ (pairs_apart (λ r. r.txn) ranks h.once)
    (list_all-from_AllPass (λ r. in_waits waits r.txn) ranks (λ k d lt. from_in waits (get_or ranks k d).txn ((h.whole (get_or ranks k d).txn).1 (k, get_or ranks k d, lt, get_or_default ranks k (get_or ranks k d) d lt, refl)))))
    (list_all-from_AllPass (falls ranks) waits (λ k d lt. falls_at (get_or waits k d) (k, lt, get_or_default waits k (get_or waits k d) d lt)))
  where
    found : (t : ℕ) → IsInWaits waits t → (r : Rank) × Contains ranks r × (r.txn ≡ t) × (rank_of ranks t ≡ Some r.rank)
    found t one =
        let any = (h.whole t).0 one in
        (any.1, (any.0, any.2, any.3), any.4, sym (ap (rank_of ranks) any.4) ∙ rank_found ranks any.1 h.once (any.0, any.2, any.3))

    below : (o p : Option ℕ) (a b : ℕ) → o ≡ Some a → p ≡ Some b → a < b → is_below o p ≡ true
    below o p a b e f lt = ap (λ q. is_below q p) e ∙ ap (is_below (Some a)) f ∙ less a b lt
      where
        less : (a b : ℕ) → a < b → nat_lt a b ≡ true
        less a b h = grind (arith, nat_tests, h)

    falls_at : (w : Wait) → Contains waits w → falls ranks w ≡ true
    falls_at w c =
        let low = found w.by (c.0, w, c.1, c.2, inr refl) in
        let high = found w.held (c.0, w, c.1, c.2, inl refl) in
        below (rank_of ranks w.by) (rank_of ranks w.held) low.0.rank high.0.rank low.3 high.3 (h.falls w high.0 low.0 c high.1 low.1 high.2 low.2)

pub holds_from_test : (waits : List Wait) (knot : Knot) → knot_test waits knot ≡ true → KnotHolds waits knot
holds_from_test waits (Cycle legs) h = cycle_from_test waits legs h
holds_from_test waits (Order ranks) h = order_from_test waits ranks h

pub test_from_holds : (waits : List Wait) (knot : Knot) → KnotHolds waits knot → knot_test waits knot ≡ true
test_from_holds waits (Cycle legs) h = test_from_cycle waits legs h
test_from_holds waits (Order ranks) h = test_from_order waits ranks h
