-- For which plain locks the kept tables stand, and whom the kept locks block.
use Rattle.std.proofs.Common.{◌≡◌, ℕ, Bool, true, false, cond, not, ◌&&◌, ◌||◌, List, [], ◌∷◌, ◌++◌, map, Option, None, Some, refl, sym, ap, ◌∙◌, true≢false}
use Rattle.std.specs.List.{list_any}
use Rattle.std.proofs.lemmas.List.Folds.{list_any-append}
use Rattle.std.specs.Ordering.{nat_cmp, is_eq, is_gt, ordering_then, ordering_reverse}
use Rattle.std.specs.declared.cmp.Ordering.{Ordering}
use Rattle.std.specs.declared.cmp.Ordering.TheVariants.{Less, Equal, Greater}
use Rattle.std.specs.FinMap.{get-empty}
use Rattle.co_base.specs.Order.{key_cmp}
use Rattle.co_base.specs.Span.{Span, span_has, span_of_key}
use Rattle.co_state.proofs.Tables.{look-put, look-without}
use Rattle.co_state.specs.Keys.{same_key, reads_key}
use Rattle.co_state.specs.Table.{Table, look, put, without, no_entries}
use Rattle.co_locktab.specs.Locks.{or_none, same_span}
use Rattle.co_locktab.specs.Shown.{is_wide}
use Rattle.co_locktab.proofs.Orders.{keys_total, keys_apart, spans_total, spans_apart, tied, ties-itself, same_number, one_number}
use Rattle.co_locktab.proofs.Least.{or_false, or_true}

-- ---- one key as a range
both_tie : (r : Ordering) → is_eq (ordering_then r r) ≡ is_eq r
both_tie Less = refl
both_tie Equal = refl
both_tie Greater = refl

pub span_ties : (q k : List ℕ) → same_span (span_of_key q) (span_of_key k) ≡ same_key q k
span_ties q k = both_tie (key_cmp q k)

-- a range that is not wide is one key
pub narrow : (s : Span) → is_wide s ≡ false → s ≡ span_of_key s.lo
narrow s e = by (same_key s.lo s.hi) refl e
  where
    by : (b : Bool) → same_key s.lo s.hi ≡ b → not b ≡ false → s ≡ span_of_key s.lo
    by true t f = λ i. record { lo = s.lo; hi = sym (tied keys_total keys_apart s.lo s.hi t) i }
    by false t f = absurd (true≢false f)

narrow_key : (k : List ℕ) → is_wide (span_of_key k) ≡ false
narrow_key k = ap not (ties-itself keys_total keys_apart k)

-- a wide range is no key
pub not_a_key : (q : List ℕ) (s : Span) → is_wide s ≡ true → same_span (span_of_key q) s ≡ false
not_a_key q s w = by (same_span (span_of_key q) s) refl
  where
    by : (b : Bool) → same_span (span_of_key q) s ≡ b → b ≡ false
    by true t = absurd (true≢false (sym w ∙ ap is_wide (sym (tied spans_total spans_apart (span_of_key q) s t)) ∙ narrow_key q))
    by false t = refl

equal_ends : (r : Ordering) → (not (is_gt r) && not (is_gt (ordering_reverse r))) ≡ is_eq r
equal_ends Less = refl
equal_ends Equal = refl
equal_ends Greater = refl

has_itself : (k q : List ℕ) → span_has (span_of_key k) q ≡ same_key k q
has_itself k q = ap (λ r. not (is_gt (key_cmp k q)) && not (is_gt r)) (keys_total.antisymm q k) ∙ equal_ends (key_cmp k q)

turned_tie : (r : Ordering) → is_eq (ordering_reverse r) ≡ is_eq r
turned_tie Less = refl
turned_tie Equal = refl
turned_tie Greater = refl

turned : (k q : List ℕ) → same_key k q ≡ same_key q k
turned k q = ap is_eq (keys_total.antisymm k q) ∙ turned_tie (key_cmp q k)

-- a range has a key where it is that key, or where it is wide and has it
one_or_wide : (q : List ℕ) (s : Span) → (same_span (span_of_key q) s || (is_wide s && span_has s q)) ≡ span_has s q
one_or_wide q s = by (is_wide s) refl
  where
    by : (b : Bool) → is_wide s ≡ b → (same_span (span_of_key q) s || (b && span_has s q)) ≡ span_has s q
    by true w = ap (λ c. c || span_has s q) (not_a_key q s w)
    by false w =
        or_false (same_span (span_of_key q) s) ∙ ap (same_span (span_of_key q)) (narrow s w) ∙ span_ties q s.lo ∙ turned q s.lo
        ∙ sym (has_itself s.lo q) ∙ ap (λ r. span_has r q) (sym (narrow s w))

four : (a b c d : Bool) → ((a || c) || (b || d)) ≡ ((a || b) || (c || d))
four true b c d = refl
four false true c d = or_true c
four false false true d = refl
four false false false d = refl

pub reads_either : (q : List ℕ) (ss : List Span) → (list_any (same_span (span_of_key q)) ss || list_any (λ s. is_wide s && span_has s q) ss) ≡ reads_key ss q
reads_either q [] = refl
reads_either q (s ∷ ss) =
    four (same_span (span_of_key q) s) (is_wide s && span_has s q) (list_any (same_span (span_of_key q)) ss) (list_any (λ s. is_wide s && span_has s q) ss)
    ∙ (λ i. one_or_wide q s i || reads_either q ss i)

-- ---- one lock more, and none any more
in_cond : {A : Type 0} (p : A → Bool) (b : Bool) (xs : List A) (o : Option (List A)) → list_any p (or_none (cond b (Some xs) o)) ≡ cond b (list_any p xs) (list_any p (or_none o))
in_cond p true xs o = refl
in_cond p false xs o = refl

module _ {A : Type 0} (p : A → Bool) (table : Table (List A)) (t : ℕ) where
  more_by : (x : A) (u : ℕ) (b : Bool) → same_number u t ≡ b
      → cond b (list_any p (or_none (look table t) ++ x ∷ [])) (list_any p (or_none (look table u))) ≡ ((b && p x) || list_any p (or_none (look table u)))
  more_by x u true e =
      list_any-append p (or_none (look table t)) (x ∷ []) ∙ by (list_any p (or_none (look table t))) (p x)
      ∙ ap (λ j. p x || list_any p (or_none (look table j))) (sym (one_number u t e))
    where
      by : (a b : Bool) → (a || (b || false)) ≡ (b || a)
      by true b = sym (or_true b)
      by false b = refl
  more_by x u false e = refl

  pub any_more : (x : A) (u : ℕ) → list_any p (or_none (look (put table t (or_none (look table t) ++ x ∷ [])) u)) ≡ ((same_number u t && p x) || list_any p (or_none (look table u)))
  any_more x u = ap (λ o. list_any p (or_none o)) (look-put table t (or_none (look table t) ++ x ∷ []) u)
      ∙ in_cond p (same_number u t) (or_none (look table t) ++ x ∷ []) (look table u) ∙ more_by x u (same_number u t) refl

  gone_by : (b : Bool) (o : Option (List A)) → list_any p (or_none (cond b None o)) ≡ cond b false (list_any p (or_none o))
  gone_by true o = refl
  gone_by false o = refl

  pub any_gone : (u : ℕ) → list_any p (or_none (look (without table t) u)) ≡ cond (same_number u t) false (list_any p (or_none (look table u)))
  any_gone u = ap (λ o. list_any p (or_none o)) (look-without table t u) ∙ gone_by (same_number u t) (look table u)

pub any_none : {A : Type 0} (p : A → Bool) (u : ℕ) → list_any p (or_none (look (no_entries {X = List A}) u)) ≡ false
any_none p u = ap (λ o. list_any p (or_none o)) (get-empty nat_cmp u)

-- what t held is gone from where it is looked for
pub ended_by : {A : Type 0} (table : Table (List A)) (p : A → Bool) (t u : ℕ) (found : Bool) (b : Bool) → same_number u t ≡ b → (list_any p (or_none (look table t)) ≡ true → found ≡ true)
    → (not (found && b) && list_any p (or_none (look table u))) ≡ cond b false (list_any p (or_none (look table u)))
ended_by table p t u found true e h = ap (λ j. not (found && true) && list_any p (or_none (look table j))) (one_number u t e) ∙ by (list_any p (or_none (look table t))) found h
  where
    by : (a f : Bool) → (a ≡ true → f ≡ true) → (not (f && true) && a) ≡ false
    by a true h = refl
    by true false h = absurd (true≢false (sym (h refl)))
    by false false h = refl
ended_by table p t u true false e h = refl
ended_by table p t u false false e h = refl

then_ties : (r s : Ordering) → is_eq (ordering_then r s) ≡ true → is_eq r ≡ true
then_ties Less s e = e
then_ties Equal s e = refl
then_ties Greater s e = e

pub bounds_found : (q : List ℕ) (ss : List Span) → list_any (same_span (span_of_key q)) ss ≡ true → list_any (same_key q) (map (λ s. s.lo) ss) ≡ true
bounds_found q [] e = e
bounds_found q (s ∷ ss) e = by (same_span (span_of_key q) s) refl e (bounds_found q ss)
  where
    by : (b : Bool) → same_span (span_of_key q) s ≡ b → (b || list_any (same_span (span_of_key q)) ss) ≡ true
        → (list_any (same_span (span_of_key q)) ss ≡ true → list_any (same_key q) (map (λ s. s.lo) ss) ≡ true) → list_any (same_key q) (map (λ s. s.lo) (s ∷ ss)) ≡ true
    by true t f rest = ap (λ c. c || list_any (same_key q) (map (λ s. s.lo) ss)) (then_ties (key_cmp q s.lo) (key_cmp q s.hi) t)
    by false t f rest = ap (λ c. same_key q s.lo || c) (rest f) ∙ or_true (same_key q s.lo)
