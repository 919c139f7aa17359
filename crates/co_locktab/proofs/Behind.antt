-- Where no range stands, behind the bytes of a fork: before the first fork from there on, and after the last.
use Rattle.std.proofs.Common.{◌≡◌, ◌⊎◌, inl, inr, ℕ, ◌<◌, Bool, true, false, List, Option, None, Some, refl, sym, ap, ◌∙◌, true≢false, arith}
use Rattle.std.specs.BTreeSet.{BTreeSet, contains}
use Rattle.std.specs.Option.{option_cmp}
use Rattle.std.specs.Ordering.{nat_cmp, is_eq, is_gt, is_lt, ordering_then, ordering_reverse}
use Rattle.std.specs.Cmp.{nat_cmp_is}
use Rattle.std.specs.declared.cmp.Ordering.{Ordering}
use Rattle.std.specs.declared.cmp.Ordering.TheVariants.{Less, Equal, Greater}
use Rattle.std.proofs.lemmas.Bool.{cases_order}
use Rattle.co_base.specs.Order.{key_cmp}
use Rattle.co_base.specs.Span.{Span, span_cmp}
use Rattle.co_locktab.specs.declared.fork.Fork.{Fork}
use Rattle.co_locktab.specs.declared.place.Place.{Place}
use Rattle.co_locktab.specs.Forks.{with_middle}
use Rattle.co_locktab.specs.Places.{fork_cmp, by_lower, are_beside, IsFirstFrom, IsLastBelow}
use Rattle.co_locktab.proofs.Orders.{keys_total, keys_apart, ties-itself, tie}
use Rattle.co_locktab.proofs.Placing.{forks_total}

-- the place of a range at a fork behind the same bytes
abbrev pub place_at : Fork → ℕ → Span → Place Span
place_at fork middle s = record { fork = with_middle fork middle; range = Some s }

-- the place before all ranges of a fork
abbrev pub place_before : Fork → Place Span
place_before fork = record { fork = fork; range = None }

same_bytes : (bytes : List ℕ) → key_cmp bytes bytes ≡ Equal
same_bytes bytes = tie (key_cmp bytes bytes) (ties-itself keys_total keys_apart bytes)

-- ---- of two orders, one behind the other, the first
pub not_above : (r s : Ordering) → is_gt (ordering_then r s) ≡ false → is_gt r ≡ false
not_above Less s e = refl
not_above Equal s e = refl
not_above Greater s e = e

pub not_below : (r s : Ordering) → is_lt (ordering_then r s) ≡ false → is_lt r ≡ false
not_below Less s e = e
not_below Equal s e = refl
not_below Greater s e = refl

not_greater : (r s : Ordering) → ordering_then r s ≡ Less → is_gt r ≡ false
not_greater Less s e = refl
not_greater Equal s e = refl
not_greater Greater s e = absurd (cc)

-- ---- a place lies on either side of the place before all ranges of a fork as its own fork does of that fork
pub from_place : (fork : Fork) (p : Place Span) → is_gt (fork_cmp fork p.fork) ≡ false → is_gt (by_lower (place_before fork) p) ≡ false
from_place fork p e = by (fork_cmp fork p.fork) p.range e
  where
    by : (r : Ordering) (o : Option Span) → is_gt r ≡ false → is_gt (ordering_then r (option_cmp span_cmp None o)) ≡ false
    by Less o e = refl
    by Equal None e = refl
    by Equal (Some s) e = refl
    by Greater o e = e

pub below_place : (fork : Fork) (p : Place Span) → fork_cmp p.fork fork ≡ Less → by_lower p (place_before fork) ≡ Less
below_place fork p e = ap (λ (r : Ordering). ordering_then r (option_cmp span_cmp p.range None)) e

pub below_fork : (fork : Fork) (p : Place Span) → by_lower p (place_before fork) ≡ Less → fork_cmp p.fork fork ≡ Less
below_fork fork p e = by (fork_cmp p.fork fork) p.range e
  where
    by : (r : Ordering) (o : Option Span) → ordering_then r (option_cmp span_cmp o None) ≡ Less → r ≡ Less
    by Less o e = refl
    by Equal None e = e
    by Equal (Some s) e = absurd (cc)
    by Greater o e = e

-- ---- the first fork from a later one on
not_after : (a b c : Fork) → is_gt (fork_cmp a b) ≡ false → is_gt (fork_cmp b c) ≡ false → is_gt (fork_cmp a c) ≡ false
not_after a b c e f = by (fork_cmp a b) refl e (fork_cmp b c) refl f
  where
    by : (r : Ordering) → fork_cmp a b ≡ r → is_gt r ≡ false → (s : Ordering) → fork_cmp b c ≡ s → is_gt s ≡ false → is_gt (fork_cmp a c) ≡ false
    by Less g h Less k l = ap is_gt (forks_total.trans a b c g k)
    by Less g h Equal k l = ap is_gt (forks_total.antisymm a c ∙ ap ordering_reverse (sym (forks_total.congr b c a k)) ∙ sym (forks_total.antisymm a b) ∙ g)
    by Less g h Greater k l = absurd (true≢false l)
    by Equal g h s k l = ap is_gt (forks_total.congr a b c g ∙ k) ∙ l
    by Greater g h s k l = absurd (true≢false h)

module _ (set : BTreeSet (Place Span)) (earlier fork : Fork) (later : is_gt (fork_cmp earlier fork) ≡ false) where
  pub still_none : IsFirstFrom set earlier None → IsFirstFrom set fork None
  still_none is = λ p e. is p (not_after earlier fork p.fork later e)

  pub still_first : (first : Fork) → is_lt (fork_cmp first fork) ≡ false → IsFirstFrom set earlier (Some first) → IsFirstFrom set fork (Some first)
  still_first first from is = (
    (is.0.0, is.0.1, ap (λ (f : Fork). is_gt (fork_cmp fork f)) is.0.1 ∙ turned, is.0.3),
    λ p e. is.1 p (not_after earlier fork p.fork later e),
  )
    where
      by : (r : Ordering) → is_lt r ≡ false → is_gt (ordering_reverse r) ≡ false
      by Less e = e
      by Equal e = refl
      by Greater e = refl

      turned : is_gt (fork_cmp fork first) ≡ false
      turned = ap is_gt (forks_total.antisymm fork first) ∙ by (fork_cmp first fork) from

-- ---- a range stands between the start and the end of its bytes
from_start : (fork : Fork) (middle : ℕ) → is_gt (fork_cmp (with_middle fork 0) (with_middle fork middle)) ≡ false
from_start fork middle = ap (λ (r : Ordering). is_gt (ordering_then r (nat_cmp 0 middle))) (same_bytes fork.prefix) ∙ by (cases_order 0 middle)
  where
    by : (0 ≡ middle) ⊎ ((0 < middle) ⊎ (middle < 0)) → is_gt (nat_cmp 0 middle) ≡ false
    by (inl e) = ap is_gt (sym (nat_cmp_is 0 middle Equal e))
    by (inr (inl l)) = ap is_gt (sym (nat_cmp_is 0 middle Less l))
    by (inr (inr l)) = absurd (omega (arith, l))

below_end : (fork : Fork) (middle : ℕ) → middle < 256 → fork_cmp (with_middle fork middle) (with_middle fork 256) ≡ Less
below_end fork middle l = ap (λ (r : Ordering). ordering_then r (nat_cmp middle 256)) (same_bytes fork.prefix) ∙ sym (nat_cmp_is middle 256 Less l)

unless : (b : Bool) → (b ≡ true → ⊥) → b ≡ false
unless true never = absurd (never refl)
unless false never = refl

-- ---- where no range stands
module _ (set : BTreeSet (Place Span)) (fork : Fork) (middle : ℕ) (s : Span) where
  pub none_from : IsFirstFrom set (with_middle fork 0) None → contains by_lower set (place_at fork middle s) ≡ false
  none_from is = is (place_at fork middle s) (from_start fork middle)

  pub none_below : IsLastBelow set (with_middle fork 256) None → middle < 256 → contains by_lower set (place_at fork middle s) ≡ false
  none_below is l = is (place_at fork middle s) (below_end fork middle l)

  -- the first fork from there on is behind other bytes
  pub none_beside : (first : Fork) → IsFirstFrom set (with_middle fork 0) (Some first) → are_beside first fork ≡ false → contains by_lower set (place_at fork middle s) ≡ false
  none_beside first is apart = unless (contains by_lower set (place_at fork middle s)) (λ e.
      let from : is_gt (key_cmp fork.prefix first.prefix) ≡ false =
      not_above (key_cmp fork.prefix first.prefix) (nat_cmp 0 first.middle) (ap (λ (f : Fork). is_gt (fork_cmp (with_middle fork 0) f)) (sym is.0.1) ∙ is.0.2) in
      by (key_cmp first.prefix fork.prefix) apart
      (not_above (key_cmp first.prefix fork.prefix) (nat_cmp first.middle middle) (is.1 (place_at fork middle s) (from_start fork middle) e))
      (ap is_gt (sym (keys_total.antisymm fork.prefix first.prefix)) ∙ from))
    where
      by : (r : Ordering) → is_eq r ≡ false → is_gt r ≡ false → is_gt (ordering_reverse r) ≡ false → ⊥
      by Less f g h = true≢false h
      by Equal f g h = true≢false f
      by Greater f g h = true≢false g

  -- the first one is behind the same bytes, and further on
  pub none_before : (first : Fork) → IsFirstFrom set (with_middle fork 0) (Some first) → first.prefix ≡ fork.prefix → middle < first.middle → contains by_lower set (place_at fork middle s) ≡ false
  none_before first is same l = unless (contains by_lower set (place_at fork middle s)) (λ e.
      let above : fork_cmp first (with_middle fork middle) ≡ Greater =
      (λ i. ordering_then (key_cmp (same i) fork.prefix) (nat_cmp first.middle middle))
      ∙ ap (λ (r : Ordering). ordering_then r (nat_cmp first.middle middle)) (same_bytes fork.prefix)
      ∙ sym (nat_cmp_is first.middle middle Greater l) in
      true≢false (ap is_gt (sym above) ∙ is.1 (place_at fork middle s) (from_start fork middle) e))

  -- the last one stands before
  pub none_after : (last : Fork) → IsLastBelow set (with_middle fork 256) (Some last) → middle < 256 → last.middle < middle → contains by_lower set (place_at fork middle s) ≡ false
  none_after last is l k = unless (contains by_lower set (place_at fork middle s)) (λ e.
      let to : is_gt (key_cmp last.prefix fork.prefix) ≡ false =
      not_greater (key_cmp last.prefix fork.prefix) (nat_cmp last.middle 256) (ap (λ (f : Fork). fork_cmp f (with_middle fork 256)) (sym is.0.1) ∙ is.0.2) in
      by (key_cmp last.prefix fork.prefix) to
      (ap (λ (r : Ordering). is_lt (ordering_then (key_cmp last.prefix fork.prefix) r)) (nat_cmp_is last.middle middle Less k) ∙ is.1 (place_at fork middle s) (below_end fork middle l) e))
    where
      by : (r : Ordering) → is_gt r ≡ false → is_lt (ordering_then r Less) ≡ false → ⊥
      by Less f g = true≢false g
      by Equal f g = true≢false g
      by Greater f g = true≢false f
