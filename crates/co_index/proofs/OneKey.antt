-- Ranges of one key alone, and the entries of a table by key.
use Rattle.std.proofs.Common.{◌≡◌, T, ℕ, Bool, true, false, cond, not, ◌&&◌, List, [], ◌∷◌, Some, refl, sym, ap, ◌∙◌, subst, true≢false}
use Rattle.std.specs.Ordering.{is_gt, is_lt, ordering_reverse}
use Rattle.std.specs.declared.cmp.Ordering.{Ordering}
use Rattle.std.specs.declared.cmp.Ordering.TheVariants.{Less, Equal, Greater}
use Rattle.std.proofs.lemmas.Cmp.{nat_list_cmp_total}
use Rattle.std.specs.FinMap.{FinMap, entries, entries_sorted, get, get-entries, slice_cmp-IsAntisymmetric, nat_cmp-IsAntisymmetric}
use Rattle.std.specs.FinMap.Entries.{find, below_all, is_sorted}
use Rattle.std.specs.List.{AllByRecursion}
use Rattle.co_base.specs.Order.{key_cmp}
use Rattle.co_base.specs.Span.{Span, span_has}
use Rattle.co_state.specs.Keys.{same_key}
use Rattle.co_state.proofs.Ties.{first, second, tie}
use Rattle.co_index.proofs.Keys as key

alone_at : (r : Ordering) → not (is_gt r) ≡ true → not (is_gt (ordering_reverse r)) ≡ true → r ≡ Equal
alone_at Less e f = absurd (true≢false (sym f))
alone_at Equal e f = refl
alone_at Greater e f = absurd (true≢false (sym e))

both_true : (a b : Bool) → (a && b) ≡ true → (a ≡ true) × (b ≡ true)
both_true true b e = (refl, e)
both_true false b e = absurd (true≢false (sym e))

alone : (lo k : List ℕ) → span_has (record { lo = lo; hi = lo }) k ≡ true → lo ≡ k
alone lo k h =
    let p = both_true (not (is_gt (key_cmp lo k))) (not (is_gt (key_cmp k lo))) h in
    slice_cmp-IsAntisymmetric nat_cmp-IsAntisymmetric lo k (alone_at (key_cmp lo k) p.0 (ap (λ r. not (is_gt r)) (sym (nat_list_cmp_total.antisymm k lo)) ∙ p.1))

-- a range of one key has no other one
pub alone_in : (span : Span) (k : List ℕ) → same_key span.lo span.hi ≡ true → span_has span k ≡ true → span.lo ≡ k
alone_in span k same h = alone span.lo k (ap (λ hi. span_has (record { lo = span.lo; hi = hi }) k) (key.tied span.lo span.hi same) ∙ h)

-- and it has its own
pub key_has : (k : List ℕ) → span_has (record { lo = k; hi = k }) k ≡ true
key_has k = ap (λ r. not (is_gt r) && not (is_gt r)) (tie (key_cmp k k) (key.itself k))

-- ---- each entry is found at its key
key_apart : (f e : List ℕ) → T (is_lt (key_cmp e f)) → (b : Bool) → key.ties f e ≡ b → b ≡ false
key_apart f e l false h = refl
key_apart f e l true h = absurd (subst T (ap (λ k. is_lt (key_cmp e k)) (key.tied f e h) ∙ ap is_lt (tie (key_cmp e e) (key.itself e))) l)

module _ {X : Type 0} where
  later : (e : List ℕ × X) (es fs : List (List ℕ × X)) → T (below_all key_cmp e.0 fs) → AllByRecursion (λ f. find key_cmp f.0 es ≡ Some f.1) fs → AllByRecursion (λ f. find key_cmp f.0 (e ∷ es) ≡ Some f.1) fs
  later e es [] below are = tt
  later e es (f ∷ fs) below are = (
    ap (λ b. cond b (Some e.1) (find key_cmp f.0 es)) (key_apart f.0 e.0 (first (is_lt (key_cmp e.0 f.0)) (below_all key_cmp e.0 fs) below) (key.ties f.0 e.0) refl) ∙ are.0,
    later e es fs (second (is_lt (key_cmp e.0 f.0)) (below_all key_cmp e.0 fs) below) are.1,
  )

  found : (es : List (List ℕ × X)) → T (is_sorted key_cmp es) → AllByRecursion (λ f. find key_cmp f.0 es ≡ Some f.1) es
  found [] sorted = tt
  found (e ∷ es) sorted = (
    ap (λ b. cond b (Some e.1) (find key_cmp e.0 es)) (key.itself e.0),
    later e es es (first (below_all key_cmp e.0 es) (is_sorted key_cmp es) sorted) (found es (second (below_all key_cmp e.0 es) (is_sorted key_cmp es) sorted)),
  )

  looked : (table : FinMap key_cmp X) (fs : List (List ℕ × X)) → AllByRecursion (λ f. find key_cmp f.0 (entries table) ≡ Some f.1) fs → AllByRecursion (λ f. get table f.0 ≡ Some f.1) fs
  looked table [] are = tt
  looked table (f ∷ fs) are = (get-entries table f.0 ∙ are.0, looked table fs are.1)

  pub all_found : (table : FinMap key_cmp X) → AllByRecursion (λ f. get table f.0 ≡ Some f.1) (entries table)
  all_found table = looked table (entries table) (found (entries table) (entries_sorted table))
