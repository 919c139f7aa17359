-- A walk along the ranges of one fork, which stops at the first that is out of reach.
use Rattle.std.proofs.Common.{◌≡◌, ◌⊎◌, inl, inr, T, ℕ, Bool, true, false, cond, not, ◌&&◌, ◌||◌, ◌≤◌, List, [], ◌∷◌, if◌then◌else◌, Option, None, Some, min, refl, sym, ap, ◌∙◌, subst, true≢false, arith}
use Rattle.std.specs.Prelude.{◌==◌, nat_le, filter}
use Rattle.std.specs.List.{list_any, AllByRecursion}
use Rattle.std.specs.List.Sorted.{IsStrictlySortedBy}
use Rattle.std.specs.BTreeSet.{BTreeSet, contains, IsOrdered}
use Rattle.std.specs.Option.{option_cmp}
use Rattle.std.specs.Ordering.{eq_by_cmp, is_eq, is_gt, is_lt, ordering_then, ordering_reverse}
use Rattle.std.specs.Cmp.{IsTotalOrder}
use Rattle.std.specs.FinMap.{FinMap, IsAntisymmetric, get, get-entries, entries}
use Rattle.std.specs.declared.cmp.Ordering.{Ordering}
use Rattle.std.specs.declared.cmp.Ordering.TheVariants.{Less, Equal, Greater}
use Rattle.std.proofs.lemmas.Bool.Decides.{nat_tests}
use Rattle.co_base.specs.Order.{key_cmp}
use Rattle.co_base.specs.Span.{Span, span_has, span_cmp}
use Rattle.co_state.specs.Table.{lesser, holds}
use Rattle.co_locktab.specs.declared.fork.Fork.{Fork}
use Rattle.co_locktab.specs.declared.holders.Holders.{Holders}
use Rattle.co_locktab.specs.declared.place.ByUpper.{ByUpper}
use Rattle.co_locktab.specs.declared.place.Place.{Place}
use Rattle.co_locktab.specs.Holding.{is_held, holder_in, first_in_lock}
use Rattle.co_locktab.specs.Locks.{IsLeast}
use Rattle.co_locktab.specs.Places.{fork_cmp, same_fork, place_cmp}
use Rattle.co_locktab.specs.Upper.{upper_cmp}
use Rattle.co_locktab.specs.Weighed.{holds_over, covers, Weighs}
use Rattle.co_locktab.proofs.Holding.{least_in_lock, passes_with}
use Rattle.co_locktab.proofs.Least.{first, second, left_true, right_true}
use Rattle.co_locktab.proofs.Orders.{keys_total, keys_apart, spans_total, spans_apart, ties-itself, tied, tie}
use Rattle.co_locktab.proofs.Placing.{forks_total, forks_apart, places_total, places_apart}
pub use Rattle.co_state.proofs.Ties.{less}

-- ---- what the lesser of two covers
covers_lesser : (a b : Option ℕ) (u : ℕ) → covers (lesser a b) u ≡ (covers a u || covers b u)
covers_lesser None b u = refl
covers_lesser (Some t) None u = by (nat_le t u)
  where
    by : (c : Bool) → c ≡ (c || false)
    by true = refl
    by false = refl
covers_lesser (Some t) (Some v) u = grind (arith, nat_tests)

pub covered : (test : ℕ → Bool) (found : Option ℕ) → IsLeast test found → (u : ℕ) → test u ≡ true → covers found u ≡ true
covered test None h u e = absurd (true≢false (sym e ∙ h u))
covered test (Some t) h u e = let l : t ≤ u = h.1 u e in grind (arith, nat_tests)

pub or_left : (a b : Bool) → a ≡ true → (a || b) ≡ true
or_left true b e = refl
or_left false b e = absurd (true≢false (sym e))

pub or_right : (a b : Bool) → b ≡ true → (a || b) ≡ true
or_right true b e = refl
or_right false b e = e

one_of : (a b : Option ℕ) (u : ℕ) → lesser a b ≡ Some u → (a ≡ Some u) ⊎ (b ≡ Some u)
one_of None b u e = inr e
one_of (Some t) None u e = inl e
one_of (Some t) (Some v) u e = by (nat_le t v) refl
  where
    by : (c : Bool) → nat_le t v ≡ c → (Some t ≡ Some u) ⊎ (Some v ≡ Some u)
    by true f = inl (let m : min t v ≡ t = grind (arith, nat_tests) in ap Some (sym m) ∙ e)
    by false f = inr (let m : min t v ≡ v = grind (arith, nat_tests) in ap Some (sym m) ∙ e)

-- ---- what a list has

module _ {K : Type 0} {R : K → K → Ordering} (o : IsTotalOrder R) (same : IsAntisymmetric R) where
  pub first_or_later : (q p : K) (ps : List K) → list_any (eq_by_cmp R q) (p ∷ ps) ≡ true → (q ≡ p) ⊎ (list_any (eq_by_cmp R q) ps ≡ true)
  first_or_later q p ps e = by (eq_by_cmp R q p) refl e
    where
      by : (b : Bool) → eq_by_cmp R q p ≡ b → (b || list_any (eq_by_cmp R q) ps) ≡ true → (q ≡ p) ⊎ (list_any (eq_by_cmp R q) ps ≡ true)
      by true f g = inl (tied o same q p f)
      by false f g = inr g

abbrev pub keys_below : {K : Type 0} → (K → K → Ordering) → K → List K → Bool
keys_below R k [] = true
keys_below R k (q ∷ qs) = is_lt (R k q) && keys_below R k qs

abbrev pub keys_sorted : {K : Type 0} → (K → K → Ordering) → List K → Bool
keys_sorted R [] = true
keys_sorted R (k ∷ ks) = keys_below R k ks && keys_sorted R ks

module _ {K : Type 0} {R : K → K → Ordering} (o : IsTotalOrder R) (same : IsAntisymmetric R) where
  pub all_later : (q k : K) (ks : List K) → T (keys_below R k ks) → list_any (eq_by_cmp R q) ks ≡ true → R k q ≡ Less
  all_later q k [] h e = absurd (true≢false (sym e))
  all_later q k (p ∷ ks) h e = by (first_or_later o same q p ks e)
      (λ f. all_later q k ks (second (is_lt (R k p)) (keys_below R k ks) h) f)
    where
      by : (q ≡ p) ⊎ (list_any (eq_by_cmp R q) ks ≡ true) → (list_any (eq_by_cmp R q) ks ≡ true → R k q ≡ Less) → R k q ≡ Less
      by (inl f) rest = ap (R k) f ∙ less (R k p) (first (is_lt (R k p)) (keys_below R k ks) h)
      by (inr f) rest = rest f

-- ---- one range
module _ (m : FinMap span_cmp Holders) (key : List ℕ) (t : ℕ) where
  abbrev pub weigh_one : Option ℕ → Span → Option ℕ
  weigh_one least span = if span_has span key then lesser least (first_in_lock t (get m span)) else least

  weighs_keeps : (least : Option ℕ) (span : Span) (u : ℕ) → covers least u ≡ true → covers (weigh_one least span) u ≡ true
  weighs_keeps least span u e = by (span_has span key)
    where
      by : (b : Bool) → covers (if b then lesser least (first_in_lock t (get m span)) else least) u ≡ true
      by true = covers_lesser least (first_in_lock t (get m span)) u ∙ or_left (covers least u) (covers (first_in_lock t (get m span)) u) e
      by false = e

  weighs_full : (least : Option ℕ) (span : Span) → span_has span key ≡ true → (u : ℕ) → is_held m span u ≡ true → not (u == t) ≡ true → covers (weigh_one least span) u ≡ true
  weighs_full least span has u e f =
      ap (λ (b : Bool). covers (if b then lesser least (first_in_lock t (get m span)) else least) u) has
      ∙ covers_lesser least (first_in_lock t (get m span)) u
      ∙ or_right (covers least u) (covers (first_in_lock t (get m span)) u)
      (covered (λ v. not (v == t) && is_held m span v) (first_in_lock t (get m span)) (least_in_lock spans_total spans_apart m span t) u (λ i. f i && e i))

  holds_one : (span : Span) (u : ℕ) → span_has span key ≡ true → first_in_lock t (get m span) ≡ Some u → holds_over m key t u ≡ true
  holds_one span u has e =
      let h : (not (u == t) && is_held m span u) ≡ true = (subst (λ (o : Option ℕ). IsLeast (λ v. not (v == t) && is_held m span v) o) e (least_in_lock spans_total spans_apart m span t)).0 in
      let p : list_any (λ e. holds e.1.txns u) (filter (λ e. span_has e.0 key) (entries m)) ≡ true =
      passes_with spans_total spans_apart (λ s. span_has s key) u (entries m) span has
      (ap (λ (o : Option Holders). holder_in o u) (sym (get-entries m span)) ∙ right_true (not (u == t)) (is_held m span u) h) in
      λ i. left_true (not (u == t)) (is_held m span u) h i && p i

  weighs_right : (least : Option ℕ) (span : Span) (u : ℕ) → weigh_one least span ≡ Some u → (least ≡ Some u) ⊎ (holds_over m key t u ≡ true)
  weighs_right least span u e = by (span_has span key) refl e
    where
      by : (b : Bool) → span_has span key ≡ b → (if b then lesser least (first_in_lock t (get m span)) else least) ≡ Some u → (least ≡ Some u) ⊎ (holds_over m key t u ≡ true)
      by true f g = by_one (one_of least (first_in_lock t (get m span)) u g)
        where
          by_one : (least ≡ Some u) ⊎ (first_in_lock t (get m span) ≡ Some u) → (least ≡ Some u) ⊎ (holds_over m key t u ≡ true)
          by_one (inl h) = inl h
          by_one (inr h) = inr (holds_one span u f h)
      by false f g = inl g

-- ---- the walk
abbrev pub range_at : {A : Type 0} → Fork → Place A → Option A
range_at fork p = if same_fork p.fork fork then p.range else None

abbrev pub go_on : {A : Type 0} → (A → Bool) → (Option ℕ → A → Option ℕ) → Option ℕ → (Option ℕ → Option ℕ) → Option A → Option ℕ
go_on reaches weigh least rest None = least
go_on reaches weigh least rest (Some x) = if reaches x then rest (weigh least x) else least

abbrev pub walk : {A : Type 0} → (A → Bool) → (Option ℕ → A → Option ℕ) → Fork → Option ℕ → List (Place A) → Option ℕ
walk reaches weigh fork least [] = least
walk reaches weigh fork least (p ∷ ps) = go_on reaches weigh least (λ l. walk reaches weigh fork l ps) (range_at fork p)

pub record Walked {A : Type 0} (R : A → A → Ordering) (val : A → Span) (m : FinMap span_cmp Holders) (key : List ℕ) (t : ℕ) (fork : Fork) (before after : Option ℕ) (ps : List (Place A)) : Type 0 where
  pub keeps : (u : ℕ) → covers before u ≡ true → covers after u ≡ true
  pub right : (u : ℕ) → after ≡ Some u → (before ≡ Some u) ⊎ (holds_over m key t u ≡ true)
  pub full : (x : A) → list_any (eq_by_cmp (place_cmp R) (record { fork = fork; range = Some x })) ps ≡ true → span_has (val x) key ≡ true
      → (u : ℕ) → is_held m (val x) u ≡ true → not (u == t) ≡ true → covers after u ≡ true

module _ {A : Type 0} {R : A → A → Ordering} (o : IsTotalOrder R) (same : IsAntisymmetric R) (val : A → Span) (reaches : A → Bool)
    (m : FinMap span_cmp Holders) (key : List ℕ) (t : ℕ) (fork : Fork)
    (out : (x y : A) → R x y ≡ Less → reaches x ≡ false → reaches y ≡ false) (has_reach : (x : A) → span_has (val x) key ≡ true → reaches x ≡ true) where
  abbrev pub weigh : Option ℕ → A → Option ℕ
  weigh least x = weigh_one m key t least (val x)

  abbrev pub here : A → Place A
  here x = record { fork = fork; range = Some x }

  abbrev pub start : Place A
  start = record { fork = fork; range = None }

  pub record Found (p : Place A) (x : A) : Type 0 where
    pub range : A
    pub is : range_at fork p ≡ Some range
    pub below : R range x ≡ Less

  -- what stands between the start of the fork and a range of the fork is of the fork
  found : (p : Place A) (x : A) → place_cmp R start p ≡ Less → place_cmp R p (here x) ≡ Less → Found p x
  found p x h k =
      by p.range (fork_cmp p.fork fork) refl refl
      (ap (λ (f : Ordering). ordering_then f (option_cmp R None p.range)) (sym (forks_total.antisymm fork p.fork)) ∙ h) k
    where
      by : (r : Option A) (f : Ordering) → p.range ≡ r → fork_cmp p.fork fork ≡ f
          → ordering_then (ordering_reverse f) (option_cmp R None r) ≡ Less → ordering_then f (option_cmp R r (Some x)) ≡ Less → Found p x
      by r Less e f g i = absurd (cc)
      by r Greater e f g i = absurd (cc)
      by None Equal e f g i = absurd (cc)
      by (Some y) Equal e f g i = record { range = y; is = ap (λ (q : Ordering). if is_eq q then p.range else None) f ∙ e; below = i }

  stopped : (p : Place A) (ps : List (Place A)) (least : Option ℕ) → place_cmp R start p ≡ Less → T (keys_below (place_cmp R) p ps)
      → ((y : A) → range_at fork p ≡ Some y → reaches y ≡ false) → Walked R val m key t fork least least (p ∷ ps)
  stopped p ps least h k none = record {
    keeps = λ u e. e;
    right = λ u e. inl e;
    full = λ x e has u f g. absurd (by x has (first_or_later (places_total o) (places_apart same) (here x) p ps e));
  }
    where
      by : (x : A) → span_has (val x) key ≡ true → (here x ≡ p) ⊎ (list_any (eq_by_cmp (place_cmp R) (here x)) ps ≡ true) → ⊥
      by x has (inl e) =
          let q : range_at fork p ≡ Some x = ap (range_at fork) (sym e) ∙ ap (λ (b : Bool). if b then Some x else None) (ties-itself forks_total forks_apart fork) in
          true≢false (sym (has_reach x has) ∙ none x q)
      by x has (inr e) =
          let f = found p x h (all_later (places_total o) (places_apart same) (here x) p ps k e) in
          true≢false (sym (has_reach x has) ∙ out f.range x f.below (none f.range f.is))

  went_on : (p : Place A) (ps : List (Place A)) (least after : Option ℕ) (y : A) → range_at fork p ≡ Some y
      → Walked R val m key t fork (weigh least y) after ps → Walked R val m key t fork least after (p ∷ ps)
  went_on p ps least after y is w = record {
    keeps = λ u e. w.keeps u (weighs_keeps m key t least (val y) u e);
    right = λ u e. by u (w.right u e);
    full = λ x e has u f g. of x has u f g (first_or_later (places_total o) (places_apart same) (here x) p ps e);
  }
    where
      by : (u : ℕ) → (weigh least y ≡ Some u) ⊎ (holds_over m key t u ≡ true) → (least ≡ Some u) ⊎ (holds_over m key t u ≡ true)
      by u (inl e) = weighs_right m key t least (val y) u e
      by u (inr e) = inr e

      of : (x : A) → span_has (val x) key ≡ true → (u : ℕ) → is_held m (val x) u ≡ true → not (u == t) ≡ true
          → (here x ≡ p) ⊎ (list_any (eq_by_cmp (place_cmp R) (here x)) ps ≡ true) → covers after u ≡ true
      of x has u f g (inl e) =
          let q : range_at fork p ≡ Some x = ap (range_at fork) (sym e) ∙ ap (λ (b : Bool). if b then Some x else None) (ties-itself forks_total forks_apart fork) in
          let z : x ≡ y = (let r : Some x ≡ Some y = sym q ∙ is in cc) in
          w.keeps u (ap (λ (v : A). covers (weigh least v) u) (sym z) ∙ weighs_full m key t least (val x) has u f g)
      of x has u f g (inr e) = w.full x e has u f g

  walked_by : (p : Place A) (ps : List (Place A)) (least : Option ℕ) (r : Option A) → range_at fork p ≡ r → place_cmp R start p ≡ Less → T (keys_below (place_cmp R) p ps)
      → ((l : Option ℕ) → Walked R val m key t fork l (walk reaches weigh fork l ps) ps)
      → Walked R val m key t fork least (go_on reaches weigh least (λ l. walk reaches weigh fork l ps) r) (p ∷ ps)
  walked_by p ps least None is h k rest = stopped p ps least h k (λ y e. absurd (let n : None ≡ Some y = sym is ∙ e in cc))
  walked_by p ps least (Some y) is h k rest = by (reaches y) refl
    where
      by : (b : Bool) → reaches y ≡ b → Walked R val m key t fork least (if b then walk reaches weigh fork (weigh least y) ps else least) (p ∷ ps)
      by true e = went_on p ps least (walk reaches weigh fork (weigh least y) ps) y is (rest (weigh least y))
      by false e = stopped p ps least h k (λ z f. let q : y ≡ z = (let r : Some y ≡ Some z = sym is ∙ f in cc) in ap reaches (sym q) ∙ e)

  pub walked : (ps : List (Place A)) (least : Option ℕ) → T (keys_below (place_cmp R) start ps) → T (keys_sorted (place_cmp R) ps) → Walked R val m key t fork least (walk reaches weigh fork least ps) ps
  walked [] least h k = record { keeps = λ u e. e; right = λ u e. inl e; full = λ x e has u f g. absurd (true≢false (sym e)) }
  walked (p ∷ ps) least h k =
      walked_by p ps least (range_at fork p) refl (less (place_cmp R start p) (first (is_lt (place_cmp R start p)) (keys_below (place_cmp R) start ps) h))
      (first (keys_below (place_cmp R) p ps) (keys_sorted (place_cmp R) ps) k)
      (λ l. walked ps l (second (is_lt (place_cmp R start p)) (keys_below (place_cmp R) start ps) h) (second (keys_below (place_cmp R) p ps) (keys_sorted (place_cmp R) ps) k))

-- ---- the part of a set behind the start of a fork
module _ {K : Type 0} (R : K → K → Ordering) where
  sorted_below : (k : K) (ks : List K) → AllByRecursion (λ y. R k y ≡ Less) ks → T (keys_below R k ks)
  sorted_below k [] h = tt
  sorted_below k (q ∷ qs) h = both (is_lt (R k q)) (keys_below R k qs) (ap is_lt h.0) (sorted_below k qs h.1)
    where
      both : (a b : Bool) → a ≡ true → T b → T (a && b)
      both true b e h = h
      both false b e h = absurd (true≢false (sym e))

  all_of : (a b : Bool) → T a → T b → T (a && b)
  all_of true b h k = k
  all_of false b h k = h

  pub sorted_keys : (ks : List K) → IsStrictlySortedBy R ks → T (keys_sorted R ks)
  unfolding IsStrictlySortedBy
  sorted_keys [] h = tt
  sorted_keys (k ∷ ks) h = all_of (keys_below R k ks) (keys_sorted R ks) (sorted_below k ks h.0) (sorted_keys ks h.1)

  module _ (f : K → Bool) where
    below_part : (k : K) (ks : List K) → T (keys_below R k ks) → T (keys_below R k (filter f ks))
    below_part k [] h = tt
    below_part k (q ∷ qs) h = by (f q) (first (is_lt (R k q)) (keys_below R k qs) h) (below_part k qs (second (is_lt (R k q)) (keys_below R k qs) h))
      where
        by : (b : Bool) → T (is_lt (R k q)) → T (keys_below R k (filter f qs)) → T (keys_below R k (cond b (q ∷ filter f qs) (filter f qs)))
        by true l m = all_of (is_lt (R k q)) (keys_below R k (filter f qs)) l m
        by false l m = m

    pub sorted_part : (ks : List K) → T (keys_sorted R ks) → T (keys_sorted R (filter f ks))
    sorted_part [] h = tt
    sorted_part (k ∷ ks) h = by (f k) (below_part k ks (first (keys_below R k ks) (keys_sorted R ks) h)) (sorted_part ks (second (keys_below R k ks) (keys_sorted R ks) h))
      where
        by : (b : Bool) → T (keys_below R k (filter f ks)) → T (keys_sorted R (filter f ks)) → T (keys_sorted R (cond b (k ∷ filter f ks) (filter f ks)))
        by true l m = all_of (keys_below R k (filter f ks)) (keys_sorted R (filter f ks)) l m
        by false l m = m

  pub behind : (begin : K) (ks : List K) → T (keys_below R begin (filter (λ k. is_lt (R begin k) && true) ks))
  behind begin [] = tt
  behind begin (k ∷ ks) = by (is_lt (R begin k)) refl (behind begin ks)
    where
      by : (b : Bool) → is_lt (R begin k) ≡ b → T (keys_below R begin (filter (λ q. is_lt (R begin q) && true) ks))
          → T (keys_below R begin (cond (b && true) (k ∷ filter (λ q. is_lt (R begin q) && true) ks) (filter (λ q. is_lt (R begin q) && true) ks)))
      by true e h = all_of (is_lt (R begin k)) (keys_below R begin (filter (λ q. is_lt (R begin q) && true) ks)) (subst T (sym e) tt) h
      by false e h = h

module _ {K : Type 0} {R : K → K → Ordering} (o : IsTotalOrder R) (same : IsAntisymmetric R) (f : K → Bool) where
  pub in_part : (q : K) (ks : List K) → f q ≡ true → list_any (eq_by_cmp R q) ks ≡ true → list_any (eq_by_cmp R q) (filter f ks) ≡ true
  in_part q [] p e = e
  in_part q (k ∷ ks) p e = by (first_or_later o same q k ks e) (λ g. in_part q ks p g)
    where
      more : (b : Bool) → list_any (eq_by_cmp R q) (filter f ks) ≡ true → list_any (eq_by_cmp R q) (cond b (k ∷ filter f ks) (filter f ks)) ≡ true
      more true g = or_right (eq_by_cmp R q k) (list_any (eq_by_cmp R q) (filter f ks)) g
      more false g = g

      it : (b : Bool) → b ≡ true → eq_by_cmp R q k ≡ true → list_any (eq_by_cmp R q) (cond b (k ∷ filter f ks) (filter f ks)) ≡ true
      it true g h = or_left (eq_by_cmp R q k) (list_any (eq_by_cmp R q) (filter f ks)) h
      it false g h = absurd (true≢false (sym g))

      by : (q ≡ k) ⊎ (list_any (eq_by_cmp R q) ks ≡ true) → (list_any (eq_by_cmp R q) ks ≡ true → list_any (eq_by_cmp R q) (filter f ks) ≡ true) → list_any (eq_by_cmp R q) (filter f (k ∷ ks)) ≡ true
      by (inl g) rest = it (f k) (ap f (sym g) ∙ p) (ap (eq_by_cmp R q) (sym g) ∙ ties-itself o same q)
      by (inr g) rest = more (f k) (rest g)

module _ {A : Type 0} {R : A → A → Ordering} (o : IsTotalOrder R) (same : IsAntisymmetric R) (val : A → Span) (reaches : A → Bool)
    (m : FinMap span_cmp Holders) (key : List ℕ) (t : ℕ) (fork : Fork)
    (out : (x y : A) → R x y ≡ Less → reaches x ≡ false → reaches y ≡ false) (has_reach : (x : A) → span_has (val x) key ≡ true → reaches x ≡ true)
    (of : Span → A) (back : (s : Span) → val (of s) ≡ s) where
  -- the walk along the part of a set behind the start of a fork looks at all ranges of the fork
  pub weighs : (set : BTreeSet (Place A)) (before after : Option ℕ) (ps : List (Place A)) → IsOrdered (place_cmp R) set
      → ps ≡ filter (λ p. is_lt (place_cmp R (record { fork = fork; range = None }) p) && true) set.keys
      → walk reaches (λ l x. weigh_one m key t l (val x)) fork before ps ≡ after
      → Weighs m key t before after (λ s. contains (place_cmp R) set (record { fork = fork; range = Some (of s) }) ≡ true)
  weighs set before after ps ordered part is =
      let start : Place A = record { fork = fork; range = None } in
      let test : Place A → Bool = λ p. is_lt (place_cmp R (record { fork = fork; range = None }) p) && true in
      let all : T (keys_sorted (place_cmp R) set.keys) = sorted_keys (place_cmp R) set.keys ordered in
      let w : Walked R val m key t fork before (walk reaches (λ l x. weigh_one m key t l (val x)) fork before (filter test set.keys)) (filter test set.keys) =
      walked o same val reaches m key t fork out has_reach (filter test set.keys) before (behind (place_cmp R) start set.keys) (sorted_part (place_cmp R) test set.keys all) in
      let v : walk reaches (λ l x. weigh_one m key t l (val x)) fork before (filter test set.keys) ≡ after =
      ap (walk reaches (λ l x. weigh_one m key t l (val x)) fork before) (sym part) ∙ is in
      record {
        keeps = λ u e. ap (λ (l : Option ℕ). covers l u) (sym v) ∙ w.keeps u e;
        right = λ u e. w.right u (v ∙ e);
        full = λ s seen has u h n.
            ap (λ (l : Option ℕ). covers l u) (sym v)
            ∙ w.full (of s)
            (in_part (places_total o) (places_apart same) test (record { fork = fork; range = Some (of s) }) set.keys
            (ap (λ (r : Ordering). is_lt (ordering_then r Less) && true) (tie (fork_cmp fork fork) (ties-itself forks_total forks_apart fork))) seen)
            (ap (λ r. span_has r key) (back s) ∙ has) u (ap (λ r. is_held m r u) (back s) ∙ h) n;
      }

-- ---- which ranges are in reach
out_of : (r : Ordering) → not (is_lt r) ≡ false → r ≡ Less
out_of Less e = refl
out_of Equal e = absurd (true≢false e)
out_of Greater e = absurd (true≢false e)

lower_first : (r s : Ordering) → ordering_then r s ≡ Less → (r ≡ Less) ⊎ (r ≡ Equal)
lower_first Less s e = inl refl
lower_first Equal s e = inr refl
lower_first Greater s e = absurd (cc)

below_next : (key a b : List ℕ) → key_cmp key a ≡ Less → (key_cmp a b ≡ Less) ⊎ (key_cmp a b ≡ Equal) → key_cmp key b ≡ Less
below_next key a b e (inl l) = keys_total.trans key a b e l
below_next key a b e (inr q) = ap (key_cmp key) (sym (keys_apart a b q)) ∙ e

above_next : (key a b : List ℕ) → key_cmp a key ≡ Less → (key_cmp b a ≡ Less) ⊎ (key_cmp b a ≡ Equal) → key_cmp b key ≡ Less
above_next key a b e (inl l) = keys_total.trans b a key l e
above_next key a b e (inr q) = ap (λ c. key_cmp c key) (keys_apart b a q) ∙ e

pub out_above : (key : List ℕ) (x y : Span) → span_cmp x y ≡ Less → not (is_lt (key_cmp key x.lo)) ≡ false → not (is_lt (key_cmp key y.lo)) ≡ false
out_above key x y e f =
    ap (λ r. not (is_lt r)) (below_next key x.lo y.lo (out_of (key_cmp key x.lo) f) (lower_first (key_cmp x.lo y.lo) (key_cmp x.hi y.hi) e))

pub out_below : (key : List ℕ) (x y : ByUpper) → upper_cmp x y ≡ Less → not (is_lt (key_cmp x.range.hi key)) ≡ false → not (is_lt (key_cmp y.range.hi key)) ≡ false
out_below key x y e f =
    ap (λ r. not (is_lt r)) (above_next key x.range.hi y.range.hi (out_of (key_cmp x.range.hi key) f) (lower_first (key_cmp y.range.hi x.range.hi) (key_cmp y.range.lo x.range.lo) e))

not_lower : (r : Ordering) → not (is_gt (ordering_reverse r)) ≡ true → not (is_lt r) ≡ true
not_lower Less e = e
not_lower Equal e = refl
not_lower Greater e = refl

pub has_from : (key : List ℕ) (s : Span) → span_has s key ≡ true → not (is_lt (key_cmp key s.lo)) ≡ true
has_from key s e =
    not_lower (key_cmp key s.lo) (ap (λ r. not (is_gt r)) (sym (keys_total.antisymm s.lo key)) ∙ left_true (not (is_gt (key_cmp s.lo key))) (not (is_gt (key_cmp key s.hi))) e)

pub has_to : (key : List ℕ) (s : Span) → span_has s key ≡ true → not (is_lt (key_cmp s.hi key)) ≡ true
has_to key s e =
    not_lower (key_cmp s.hi key) (ap (λ r. not (is_gt r)) (sym (keys_total.antisymm key s.hi)) ∙ right_true (not (is_gt (key_cmp s.lo key))) (not (is_gt (key_cmp key s.hi))) e)
