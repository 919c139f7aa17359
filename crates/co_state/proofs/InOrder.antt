-- What operations read and wrote is in strict order, and no longer than the list of operations; changes that are
-- joined, and the undos of a dump, are in order of their keys.
use Rattle.std.proofs.Common.{◌≡◌, ℕ, ◌≤◌, List, [], ◌∷◌, length, map, Option, None, Some, refl, sym, ap, ◌∙◌, subst, suc, arith}
use Rattle.std.proofs.lemmas.Cmp.{nat_list_cmp_total}
use Rattle.std.specs.Cmp.{IsTotalOrder}
use Rattle.std.specs.FinMap.{entries, slice_cmp-IsAntisymmetric, nat_cmp-IsAntisymmetric}
use Rattle.std.specs.FinMap.Entries.{by_order}
use Rattle.std.specs.List.{AllByRecursion}
use Rattle.std.specs.List.Sorted.{IsStrictlySortedBy}
use Rattle.std.specs.Ordering.{ordering_reverse}
use Rattle.std.specs.declared.cmp.Ordering.{Ordering}
use Rattle.std.specs.declared.cmp.Ordering.TheVariants.{Less, Equal, Greater}
use Rattle.co_base.proofs.Ordered.{sorted_none, span_total}
use Rattle.co_base.specs.Order.{key_cmp}
use Rattle.co_base.specs.RowOrder.{AreInKeyOrder}
use Rattle.co_base.specs.Span.{Span, span_cmp}
use Rattle.co_base.specs.declared.head.Kind.{Kind}
use Rattle.co_base.specs.declared.head.Kind.TheVariants.{Lock, Occ, Mv}
use Rattle.co_base.specs.declared.written.Written.{Written}
use Rattle.co_serial.specs.Records.{Records}
use Rattle.co_state.specs.declared.engine_state.EngineState.{EngineState}
use Rattle.co_state.specs.declared.engine_state.Operation.{Operation}
use Rattle.co_state.specs.Changes.{span_read, change_made, put_span, put_change, with_span, with_written, spans_of, changes_of}
use Rattle.co_state.specs.Effects.{joined, active_changes, voted_changes, undecided_changes, undo_of, dumped_undos}
use Rattle.co_state.specs.EngineState.{installed_records}

module _ {K : Type 0} (cmp : K → K → Ordering) (total : IsTotalOrder cmp) where
  -- what is below the first is below the others
  pub further : (p q : K) (ks : List K) → cmp p q ≡ Less → AllByRecursion (λ k. cmp q k ≡ Less) ks → AllByRecursion (λ k. cmp p k ≡ Less) ks
  further p q [] less all = tt
  further p q (k ∷ ks) less all = (total.trans p q k less all.0, further p q ks less all.1)

  pub turned : (p q : K) → cmp p q ≡ Greater → cmp q p ≡ Less
  turned p q e = total.antisymm q p ∙ ap ordering_reverse e

-- ---- ranges

abbrev IsBelowSpans : Span → List Span → Type 0
IsBelowSpans span spans = AllByRecursion (λ s. span_cmp span s ≡ Less) spans

below-put_span : (low span : Span) (spans : List Span) → span_cmp low span ≡ Less → IsBelowSpans low spans → IsBelowSpans low (put_span span spans)
below-put_span low span [] l a = (l, tt)
below-put_span low span (s ∷ ss) l a = by (below-put_span low span ss l a.1) (span_cmp span s) refl
  where
    by : IsBelowSpans low (put_span span ss) → (r : Ordering) → span_cmp span s ≡ r → IsBelowSpans low (put_span span (s ∷ ss))
    by rest Less e = subst (λ r. IsBelowSpans low (by_order r (span ∷ s ∷ ss) (s ∷ ss) (s ∷ put_span span ss))) (sym e) (l, a)
    by rest Equal e = subst (λ r. IsBelowSpans low (by_order r (span ∷ s ∷ ss) (s ∷ ss) (s ∷ put_span span ss))) (sym e) a
    by rest Greater e = subst (λ r. IsBelowSpans low (by_order r (span ∷ s ∷ ss) (s ∷ ss) (s ∷ put_span span ss))) (sym e) (a.0, rest)

-- a range that is put in its place
pub sorted-put_span : (span : Span) (spans : List Span) → IsStrictlySortedBy span_cmp spans → IsStrictlySortedBy span_cmp (put_span span spans)
unfolding IsStrictlySortedBy
sorted-put_span span [] a = (tt, tt)
sorted-put_span span (s ∷ ss) a = by (sorted-put_span span ss a.1) (span_cmp span s) refl
  where
    by : IsStrictlySortedBy span_cmp (put_span span ss) → (r : Ordering) → span_cmp span s ≡ r → IsStrictlySortedBy span_cmp (put_span span (s ∷ ss))
    by rest Less e =
        subst (λ r. IsStrictlySortedBy span_cmp (by_order r (span ∷ s ∷ ss) (s ∷ ss) (s ∷ put_span span ss))) (sym e)
        ((e, further span_cmp span_total span s ss e a.0), a)
    by rest Equal e = subst (λ r. IsStrictlySortedBy span_cmp (by_order r (span ∷ s ∷ ss) (s ∷ ss) (s ∷ put_span span ss))) (sym e) a
    by rest Greater e =
        subst (λ r. IsStrictlySortedBy span_cmp (by_order r (span ∷ s ∷ ss) (s ∷ ss) (s ∷ put_span span ss))) (sym e)
        (below-put_span s span ss (turned span_cmp span_total span s e) a.0, rest)

sorted-with_span : (span : Option Span) (spans : List Span) → IsStrictlySortedBy span_cmp spans → IsStrictlySortedBy span_cmp (with_span span spans)
sorted-with_span None spans a = a
sorted-with_span (Some span) spans a = sorted-put_span span spans a

-- what operations read is in order
pub sorted-spans_of : (os : List Operation) → IsStrictlySortedBy span_cmp (spans_of os)
sorted-spans_of [] = sorted_none span_cmp
sorted-spans_of (o ∷ os) = sorted-with_span (span_read o.op) (spans_of os) (sorted-spans_of os)

-- ---- changes

abbrev IsBelowKeys : List ℕ → List Written → Type 0
IsBelowKeys key changes = AllByRecursion (λ k. key_cmp key k ≡ Less) (map (λ w. w.key) changes)

below-put_change : (low : List ℕ) (c : Written) (ws : List Written) → key_cmp low c.key ≡ Less → IsBelowKeys low ws → IsBelowKeys low (put_change c ws)
below-put_change low c [] l a = (l, tt)
below-put_change low c (w ∷ ws) l a = by (below-put_change low c ws l a.1) (key_cmp c.key w.key) refl
  where
    by : IsBelowKeys low (put_change c ws) → (r : Ordering) → key_cmp c.key w.key ≡ r → IsBelowKeys low (put_change c (w ∷ ws))
    by rest Less e = subst (λ r. IsBelowKeys low (by_order r (c ∷ w ∷ ws) (c ∷ ws) (w ∷ put_change c ws))) (sym e) (l, a)
    by rest Equal e = subst (λ r. IsBelowKeys low (by_order r (c ∷ w ∷ ws) (c ∷ ws) (w ∷ put_change c ws))) (sym e) (l, a.1)
    by rest Greater e = subst (λ r. IsBelowKeys low (by_order r (c ∷ w ∷ ws) (c ∷ ws) (w ∷ put_change c ws))) (sym e) (a.0, rest)

-- a change that is put in its place
pub ordered-put_change : (c : Written) (ws : List Written) → AreInKeyOrder ws → AreInKeyOrder (put_change c ws)
unfolding IsStrictlySortedBy
ordered-put_change c [] a = (tt, tt)
ordered-put_change c (w ∷ ws) a = by (ordered-put_change c ws a.1) (key_cmp c.key w.key) refl
  where
    by : AreInKeyOrder (put_change c ws) → (r : Ordering) → key_cmp c.key w.key ≡ r → AreInKeyOrder (put_change c (w ∷ ws))
    by rest Less e =
        subst (λ r. AreInKeyOrder (by_order r (c ∷ w ∷ ws) (c ∷ ws) (w ∷ put_change c ws))) (sym e)
        ((e, further key_cmp nat_list_cmp_total c.key w.key (map (λ v. v.key) ws) e a.0), a)
    by rest Equal e =
        subst (λ r. AreInKeyOrder (by_order r (c ∷ w ∷ ws) (c ∷ ws) (w ∷ put_change c ws))) (sym e)
        (subst (λ k. IsBelowKeys k ws) (sym (slice_cmp-IsAntisymmetric nat_cmp-IsAntisymmetric c.key w.key e)) a.0, a.1)
    by rest Greater e =
        subst (λ r. AreInKeyOrder (by_order r (c ∷ w ∷ ws) (c ∷ ws) (w ∷ put_change c ws))) (sym e)
        (below-put_change w.key c ws (turned key_cmp nat_list_cmp_total c.key w.key e) a.0, rest)

ordered-with_written : (c : Option Written) (ws : List Written) → AreInKeyOrder ws → AreInKeyOrder (with_written c ws)
ordered-with_written None ws a = a
ordered-with_written (Some c) ws a = ordered-put_change c ws a

-- what operations wrote is in order of its keys
pub ordered-changes_of : (os : List Operation) → AreInKeyOrder (changes_of os)
ordered-changes_of [] = sorted_none key_cmp
ordered-changes_of (o ∷ os) = ordered-with_written (change_made o.op) (changes_of os) (ordered-changes_of os)

-- changes joined to others that are in order are in order
pub ordered-joined : (ws vs : List Written) → AreInKeyOrder vs → AreInKeyOrder (joined ws vs)
ordered-joined [] vs a = a
ordered-joined (w ∷ ws) vs a = ordered-put_change w (joined ws vs) (ordered-joined ws vs a)

ordered-active : (es : List (ℕ × List Operation)) → AreInKeyOrder (active_changes es)
ordered-active [] = sorted_none key_cmp
ordered-active (e ∷ es) = ordered-joined (changes_of e.1) (active_changes es) (ordered-active es)

-- the changes of all undecided transactions are in order of their keys
pub ordered-undecided : (b : EngineState) → AreInKeyOrder (undecided_changes b)
ordered-undecided b = ordered-joined (voted_changes (entries b.voted)) (active_changes (entries b.active)) (ordered-active (entries b.active))

undo_keys : (r : Records) (ws : List Written) → map (λ w. w.key) (map (undo_of r) ws) ≡ map (λ w. w.key) ws
undo_keys r [] = refl
undo_keys r (w ∷ ws) = ap (λ ks. w.key ∷ ks) (undo_keys r ws)

-- and so are the undos of a dump, of any state
pub ordered-dumped_undos : (kind : Kind) (b : EngineState) → AreInKeyOrder (dumped_undos kind b)
ordered-dumped_undos Lock b = subst (IsStrictlySortedBy key_cmp) (sym (undo_keys (installed_records b) (undecided_changes b))) (ordered-undecided b)
ordered-dumped_undos Occ b = sorted_none key_cmp
ordered-dumped_undos Mv b = sorted_none key_cmp

-- ---- lengths

length-put_span : (span : Span) (spans : List Span) → length (put_span span spans) ≤ suc (length spans)
length-put_span span [] = omega arith
length-put_span span (s ∷ ss) = by (length-put_span span ss) (span_cmp span s)
  where
    by : length (put_span span ss) ≤ suc (length ss) → (r : Ordering) → length (by_order r (span ∷ s ∷ ss) (s ∷ ss) (s ∷ put_span span ss)) ≤ suc (suc (length ss))
    by rest Less = omega arith
    by rest Equal = omega arith
    by rest Greater = omega (arith, rest)

length-with_span : (span : Option Span) (spans : List Span) → length (with_span span spans) ≤ suc (length spans)
length-with_span None spans = omega arith
length-with_span (Some span) spans = length-put_span span spans

-- no more ranges are read than there are operations
pub length-spans_of : (os : List Operation) → length (spans_of os) ≤ length os
length-spans_of [] = omega arith
length-spans_of (o ∷ os) = let l = length-with_span (span_read o.op) (spans_of os) in let r = length-spans_of os in omega (arith, l, r)

length-put_change : (c : Written) (ws : List Written) → length (put_change c ws) ≤ suc (length ws)
length-put_change c [] = omega arith
length-put_change c (w ∷ ws) = by (length-put_change c ws) (key_cmp c.key w.key)
  where
    by : length (put_change c ws) ≤ suc (length ws) → (r : Ordering) → length (by_order r (c ∷ w ∷ ws) (c ∷ ws) (w ∷ put_change c ws)) ≤ suc (suc (length ws))
    by rest Less = omega arith
    by rest Equal = omega arith
    by rest Greater = omega (arith, rest)

length-with_written : (c : Option Written) (ws : List Written) → length (with_written c ws) ≤ suc (length ws)
length-with_written None ws = omega arith
length-with_written (Some c) ws = length-put_change c ws

-- no more keys are written than there are operations
pub length-changes_of : (os : List Operation) → length (changes_of os) ≤ length os
length-changes_of [] = omega arith
length-changes_of (o ∷ os) = let l = length-with_written (change_made o.op) (changes_of os) in let r = length-changes_of os in omega (arith, l, r)
