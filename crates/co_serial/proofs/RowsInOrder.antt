-- The rows of a range ascend by key.
use Rattle.std.proofs.Common.{◌≡◌, ℕ, Bool, true, false, cond, ◌&&◌, T, List, [], ◌∷◌, map, filter, refl, sym, subst}
use Rattle.std.specs.declared.cmp.Ordering.{Ordering}
use Rattle.std.specs.declared.cmp.Ordering.TheVariants.{Less, Equal, Greater}
use Rattle.std.specs.Ordering.{is_lt}
use Rattle.std.specs.FinMap.{entries, entries_sorted}
use Rattle.std.specs.FinMap.Entries.{below_all, is_sorted}
use Rattle.std.specs.List.{AllByRecursion}
use Rattle.std.specs.List.Sorted.{IsStrictlySortedBy}
use Rattle.co_base.specs.Order.{key_cmp}
use Rattle.co_base.specs.RowOrder.{IsInKeyOrder}
use Rattle.co_base.specs.Span.{Span, span_has}
use Rattle.co_serial.specs.Records.{Records, row_of, rows_within}

row_key_below : (low : List ℕ) (test : List ℕ × List ℕ → Bool) (es : List (List ℕ × List ℕ)) → T (below_all key_cmp low es) → AllByRecursion (λ k. key_cmp low k ≡ Less) (map (λ r. r.key) (map row_of (filter test es)))
row_key_below low test [] h = tt
row_key_below low test (e ∷ es) h = by (row_key_below low test es) (key_cmp low e.0) refl h
  where
    kept : AllByRecursion (λ k. key_cmp low k ≡ Less) (map (λ r. r.key) (map row_of (filter test es))) → key_cmp low e.0 ≡ Less → (b : Bool) →
        AllByRecursion (λ k. key_cmp low k ≡ Less) (map (λ r. r.key) (map row_of (cond b (e ∷ filter test es) (filter test es))))
    kept rest f true = (f, rest)
    kept rest f false = rest

    by : (T (below_all key_cmp low es) → AllByRecursion (λ k. key_cmp low k ≡ Less) (map (λ r. r.key) (map row_of (filter test es)))) → (r : Ordering) → key_cmp low e.0 ≡ r →
        T (is_lt r && below_all key_cmp low es) → AllByRecursion (λ k. key_cmp low k ≡ Less) (map (λ r. r.key) (map row_of (filter test (e ∷ es))))
    by rest Less f k = kept (rest k) f (test e)
    by rest Equal f k = absurd k
    by rest Greater f k = absurd k

rows_sorted : (test : List ℕ × List ℕ → Bool) (es : List (List ℕ × List ℕ)) → T (is_sorted key_cmp es) → IsInKeyOrder (map row_of (filter test es))
unfolding IsStrictlySortedBy
rows_sorted test [] h = tt
rows_sorted test (e ∷ es) h = by (rows_sorted test es) (below_all key_cmp e.0 es) refl h
  where
    kept : AllByRecursion (λ k. key_cmp e.0 k ≡ Less) (map (λ r. r.key) (map row_of (filter test es))) → IsInKeyOrder (map row_of (filter test es)) → (b : Bool) →
        IsInKeyOrder (map row_of (cond b (e ∷ filter test es) (filter test es)))
    kept low rest true = (low, rest)
    kept low rest false = rest

    by : (T (is_sorted key_cmp es) → IsInKeyOrder (map row_of (filter test es))) → (c : Bool) → below_all key_cmp e.0 es ≡ c → T (c && is_sorted key_cmp es) →
        IsInKeyOrder (map row_of (filter test (e ∷ es)))
    by rest true f k = kept (row_key_below e.0 test es (subst T (sym f) tt)) (rest k) (test e)
    by rest false f k = absurd k

pub rows_ordered : (r : Records) (span : Span) → IsInKeyOrder (rows_within r span)
rows_ordered r span = rows_sorted (λ e. span_has span e.0) (entries r) (entries_sorted r)
