-- The index of ranges after one more and one less.
use Rattle.std.proofs.Common.{◌≡◌, ℕ, Bool, true, false, cond, not, ◌&&◌, ◌||◌, List, if◌then◌else◌, Option, None, Some, is_some, refl, sym, ap, ◌∙◌, subst, true≢false}
use Rattle.std.specs.BTreeSet.{contains}
use Rattle.std.specs.Ordering.{eq_by_cmp, is_eq, ordering_then, ordering_reverse}
use Rattle.std.specs.Option.{option_cmp}
use Rattle.std.specs.Cmp.{IsTotalOrder}
use Rattle.std.specs.FinMap.{FinMap, get, remove, empty, get-insert, get-remove, get-empty}
use Rattle.std.specs.declared.cmp.Ordering.{Ordering}
use Rattle.std.specs.declared.cmp.Ordering.TheVariants.{Less, Equal, Greater}
use Rattle.co_base.specs.Order.{key_cmp}
use Rattle.co_locktab.specs.Upper.{upper_cmp}
use Rattle.co_base.specs.Span.{Span, span_cmp, span_has}
use Rattle.co_locktab.specs.declared.fork.Fork.{Fork}
use Rattle.co_locktab.specs.declared.fork_index.ForkIndex.{ForkIndex}
use Rattle.co_locktab.specs.declared.holders.Holders.{Holders}
use Rattle.co_locktab.specs.declared.place.ByUpper.{ByUpper}
use Rattle.co_locktab.specs.declared.place.Place.{Place}
use Rattle.co_locktab.specs.Forks.{fork_of, IsOnPath}
use Rattle.co_locktab.specs.Holding.{is_left, changed, left, left_at, held_by, with_holder, without_holder, joined, one_holder}
use Rattle.co_locktab.specs.Locks.{same_span}
use Rattle.co_locktab.specs.Places.{fork_cmp, same_fork, by_lower, by_upper, lower_place, upper_place, is_placed, spanned, IsIndexed}
use Rattle.co_locktab.proofs.Orders.{spans_total, spans_apart, tied}
use Rattle.co_locktab.proofs.Placing.{forks_total}
use Rattle.co_locktab.proofs.Least.{right_true, and_false}

-- ---- places tie where their ranges and their forks do
both_eq : (r s : Ordering) → is_eq (ordering_then r s) ≡ (is_eq r && is_eq s)
both_eq Less s = refl
both_eq Equal s = refl
both_eq Greater s = refl

turned : (r : Ordering) → is_eq (ordering_reverse r) ≡ is_eq r
turned Less = refl
turned Equal = refl
turned Greater = refl

turn_ties : {K : Type 0} {R : K → K → Ordering} (o : IsTotalOrder R) (q k : K) → eq_by_cmp R q k ≡ eq_by_cmp R k q
turn_ties {R = R} o q k = ap is_eq (o.antisymm q k) ∙ turned (R k q)

-- whether a place is that of a range
abbrev is_its : Span → Fork → Option Span → Bool
is_its span fork None = false
is_its span fork (Some s) = same_fork fork (fork_of span) && same_span s span

and_comm : (a b : Bool) → (a && b) ≡ (b && a)
and_comm true true = refl
and_comm true false = refl
and_comm false true = refl
and_comm false false = refl

lower_its : (span : Span) (p : Place Span) → eq_by_cmp by_lower (lower_place span) p ≡ is_its span p.fork p.range
lower_its span p = by p.range
  where
    by : (r : Option Span) → is_eq (ordering_then (fork_cmp (fork_of span) p.fork) (option_cmp span_cmp (Some span) r)) ≡ is_its span p.fork r
    by None = both_eq (fork_cmp (fork_of span) p.fork) _ ∙ and_false (same_fork (fork_of span) p.fork)
    by (Some s) = both_eq (fork_cmp (fork_of span) p.fork) (span_cmp span s) ∙ (λ i. turn_ties forks_total (fork_of span) p.fork i && turn_ties spans_total span s i)

upper_its : (span : Span) (p : Place ByUpper) → eq_by_cmp by_upper (upper_place span) p ≡ is_its span p.fork (spanned p.range)
upper_its span p = by p.range
  where
    as_ranges : (r : ByUpper) → eq_by_cmp upper_cmp (record { range = span }) r ≡ same_span r.range span
    as_ranges r =
        both_eq (key_cmp r.range.hi span.hi) (key_cmp r.range.lo span.lo)
        ∙ and_comm (is_eq (key_cmp r.range.hi span.hi)) (is_eq (key_cmp r.range.lo span.lo))
        ∙ sym (both_eq (key_cmp r.range.lo span.lo) (key_cmp r.range.hi span.hi))

    by : (r : Option ByUpper) → is_eq (ordering_then (fork_cmp (fork_of span) p.fork) (option_cmp upper_cmp (Some (record { range = span })) r)) ≡ is_its span p.fork (spanned r)
    by None = both_eq (fork_cmp (fork_of span) p.fork) _ ∙ and_false (same_fork (fork_of span) p.fork)
    by (Some r) =
        both_eq (fork_cmp (fork_of span) p.fork) (upper_cmp (record { range = span }) r)
        ∙ (λ i. turn_ties forks_total (fork_of span) p.fork i && as_ranges r i)

-- ---- one range more
module _ (m n : FinMap span_cmp Holders) (span : Span) where
  more : ((q : Span) → is_some (get n q) ≡ (same_span q span || is_some (get m q))) → (fork : Fork) (r : Option Span)
      → (is_its span fork r || is_placed m fork r) ≡ is_placed n fork r
  more h fork None = refl
  more h fork (Some s) = by (same_span s span) refl ∙ ap (λ b. same_fork fork (fork_of s) && b) (sym (h s))
    where
      by : (b : Bool) → same_span s span ≡ b → ((same_fork fork (fork_of span) && b) || (same_fork fork (fork_of s) && is_some (get m s))) ≡ (same_fork fork (fork_of s) && (b || is_some (get m s)))
      by true e = ap (λ (q : Span). (same_fork fork (fork_of q) && true) || (same_fork fork (fork_of s) && is_some (get m s))) (sym (tied spans_total spans_apart s span e)) ∙ of (same_fork fork (fork_of s)) (is_some (get m s))
        where
          of : (a b : Bool) → ((a && true) || (a && b)) ≡ (a && true)
          of true b = refl
          of false b = refl
      by false e = ap (λ (b : Bool). b || (same_fork fork (fork_of s) && is_some (get m s))) (and_false (same_fork fork (fork_of span)))

  fewer : ((q : Span) → is_some (get n q) ≡ (not (same_span q span) && is_some (get m q))) → (fork : Fork) (r : Option Span)
      → (not (is_its span fork r) && is_placed m fork r) ≡ is_placed n fork r
  fewer h fork None = refl
  fewer h fork (Some s) = by (same_span s span) refl ∙ ap (λ b. same_fork fork (fork_of s) && b) (sym (h s))
    where
      by : (b : Bool) → same_span s span ≡ b → (not (same_fork fork (fork_of span) && b) && (same_fork fork (fork_of s) && is_some (get m s))) ≡ (same_fork fork (fork_of s) && (not b && is_some (get m s)))
      by true e = ap (λ (q : Span). not (same_fork fork (fork_of q) && true) && (same_fork fork (fork_of s) && is_some (get m s))) (sym (tied spans_total spans_apart s span e)) ∙ of (same_fork fork (fork_of s)) (is_some (get m s))
        where
          of : (a b : Bool) → (not (a && true) && (a && b)) ≡ (a && false)
          of true b = refl
          of false b = refl
      by false e = ap (λ (b : Bool). not b && (same_fork fork (fork_of s) && is_some (get m s))) (and_false (same_fork fork (fork_of span)))

pub indexed_none : (forks : ForkIndex) → ((p : Place Span) → contains by_lower forks.lower p ≡ false) → ((p : Place ByUpper) → contains by_upper forks.upper p ≡ false) → IsIndexed empty forks
indexed_none forks l u = record {
  by_lower_is = λ p. l p ∙ none p.fork p.range;
  by_upper_is = λ p. u p ∙ none p.fork (spanned p.range);
  on_path = λ s e. absurd (true≢false (sym e ∙ ap is_some (get-empty span_cmp s)));
}
  where
    none : (fork : Fork) (r : Option Span) → false ≡ is_placed empty fork r
    none fork None = refl
    none fork (Some s) = sym (ap (λ (o : Option Holders). same_fork fork (fork_of s) && is_some o) (get-empty span_cmp s) ∙ and_false (same_fork fork (fork_of s)))

some_cond : (b : Bool) (h : Holders) (o : Option Holders) → is_some (cond b (Some h) o) ≡ (b || is_some o)
some_cond true h o = refl
some_cond false h o = refl

none_cond : (b : Bool) (o : Option Holders) → is_some (cond b None o) ≡ (not b && is_some o)
none_cond true o = refl
none_cond false o = refl

there_with : (m : FinMap span_cmp Holders) (span : Span) (t : ℕ) (q : Span) → is_some (get (with_holder m span t) q) ≡ (same_span q span || is_some (get m q))
there_with m span t q = by (get m span)
  where
    by : (o : Option Holders) → is_some (get (held_by m span t o) q) ≡ (same_span q span || is_some (get m q))
    by None = ap is_some (get-insert spans_total m span (one_holder t) q) ∙ some_cond (same_span q span) (one_holder t) (get m q)
    by (Some h) = ap is_some (get-insert spans_total m span (joined t h) q) ∙ some_cond (same_span q span) (joined t h) (get m q)

pub indexed_with : (m : FinMap span_cmp Holders) (old new : ForkIndex) (span : Span) (t : ℕ)
    → ((p : Place Span) → contains by_lower new.lower p ≡ (eq_by_cmp by_lower (lower_place span) p || contains by_lower old.lower p))
    → ((p : Place ByUpper) → contains by_upper new.upper p ≡ (eq_by_cmp by_upper (upper_place span) p || contains by_upper old.upper p))
    → ((key : List ℕ) → span_has span key ≡ true → IsOnPath key (fork_of span)) → IsIndexed m old → IsIndexed (with_holder m span t) new
indexed_with m old new span t l u path x = record {
  by_lower_is = λ p. l p ∙ (λ i. lower_its span p i || x.by_lower_is p i) ∙ more m (with_holder m span t) span (there_with m span t) p.fork p.range;
  by_upper_is = λ p. u p ∙ (λ i. upper_its span p i || x.by_upper_is p i) ∙ more m (with_holder m span t) span (there_with m span t) p.fork (spanned p.range);
  on_path = λ s e. by s (same_span s span) refl (sym (there_with m span t s) ∙ e);
}
  where
    by : (s : Span) (b : Bool) → same_span s span ≡ b → (b || is_some (get m s)) ≡ true → (key : List ℕ) → span_has s key ≡ true → IsOnPath key (fork_of s)
    by s true e f = subst (λ (q : Span). (key : List ℕ) → span_has q key ≡ true → IsOnPath key (fork_of q)) (sym (tied spans_total spans_apart s span e)) path
    by s false e f = x.on_path s f

-- ---- one holder less
there_left : (m : FinMap span_cmp Holders) (span : Span) (t : ℕ) (q : Span) → is_some (get (left_at m span t) q) ≡ is_some (get m q)
there_left m span t q = by (get m span) refl
  where
    by : (o : Option Holders) → get m span ≡ o → is_some (get (changed m span (left t) o) q) ≡ is_some (get m q)
    by None e = refl
    by (Some h) e = ap is_some (get-insert spans_total m span (left t h) q) ∙ some_cond (same_span q span) (left t h) (get m q) ∙ of (same_span q span) refl
      where
        of : (b : Bool) → same_span q span ≡ b → (b || is_some (get m q)) ≡ is_some (get m q)
        of true f = sym (ap (λ (s : Span). is_some (get m s)) (tied spans_total spans_apart q span f) ∙ ap is_some e)
        of false f = refl

there_gone : (m : FinMap span_cmp Holders) (span : Span) (t : ℕ) (q : Span) → is_some (get (remove (left_at m span t) span) q) ≡ (not (same_span q span) && is_some (get m q))
there_gone m span t q = ap is_some (get-remove spans_total (left_at m span t) span q) ∙ none_cond (same_span q span) (get (left_at m span t) q) ∙ ap (λ b. not (same_span q span) && b) (there_left m span t q)

pub indexed_left : (m : FinMap span_cmp Holders) (forks : ForkIndex) (span : Span) (t : ℕ) → is_left (get (left_at m span t) span) ≡ false → IsIndexed m forks → IsIndexed (without_holder m span t) forks
indexed_left m forks span t e x = subst (λ (b : Bool). IsIndexed (if b then remove (left_at m span t) span else left_at m span t) forks) (sym e) (record {
  by_lower_is = λ p. x.by_lower_is p ∙ kept p.fork p.range;
  by_upper_is = λ p. x.by_upper_is p ∙ kept p.fork (spanned p.range);
  on_path = λ s f. x.on_path s (sym (there_left m span t s) ∙ f);
})
  where
    kept : (fork : Fork) (r : Option Span) → is_placed m fork r ≡ is_placed (left_at m span t) fork r
    kept fork None = refl
    kept fork (Some s) = ap (λ b. same_fork fork (fork_of s) && b) (sym (there_left m span t s))

pub indexed_without : (m : FinMap span_cmp Holders) (old new : ForkIndex) (span : Span) (t : ℕ) → is_left (get (left_at m span t) span) ≡ true
    → ((p : Place Span) → contains by_lower new.lower p ≡ (not (eq_by_cmp by_lower (lower_place span) p) && contains by_lower old.lower p))
    → ((p : Place ByUpper) → contains by_upper new.upper p ≡ (not (eq_by_cmp by_upper (upper_place span) p) && contains by_upper old.upper p))
    → IsIndexed m old → IsIndexed (without_holder m span t) new
indexed_without m old new span t e l u x = subst (λ (b : Bool). IsIndexed (if b then remove (left_at m span t) span else left_at m span t) new) (sym e) (record {
  by_lower_is = λ p. l p ∙ (λ i. not (lower_its span p i) && x.by_lower_is p i) ∙ fewer m (remove (left_at m span t) span) span (there_gone m span t) p.fork p.range;
  by_upper_is = λ p. u p ∙ (λ i. not (upper_its span p i) && x.by_upper_is p i) ∙ fewer m (remove (left_at m span t) span) span (there_gone m span t) p.fork (spanned p.range);
  on_path = λ s f. x.on_path s (right_true (not (same_span s span)) (is_some (get m s)) (sym (there_gone m span t s) ∙ f));
})

-- what came back is the range, where the lock was left by all
pub ended_is : (b : Bool) (r s : Span) → Some r ≡ (if b then Some s else None) → (b ≡ true) × (r ≡ s)
ended_is true r s e = (refl, cc)
ended_is false r s e = absurd (cc)

pub not_ended : (b : Bool) (s : Span) → None ≡ (if b then Some s else None) → b ≡ false
not_ended true s e = absurd (cc)
not_ended false s e = refl
