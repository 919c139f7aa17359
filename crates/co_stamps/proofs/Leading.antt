-- The least number at or above one, and the greatest below one.
use Rattle.std.proofs.Common.{◌≡◌, T, ℕ, ◌<◌, ◌≤◌, Bool, true, false, cond, List, [], ◌∷◌, filter, is_some, length, Option, None, Some, refl, sym, ap, ◌∙◌, subst, true≢false, eq-eqb, arith, ◌⊎◌, inl, inr}
use Rattle.std.specs.Prelude.{nat_lt, nat_le, ◌==◌}
use Rattle.std.specs.Cmp.{nat_cmp_is}
use Rattle.std.proofs.lemmas.Bool.{cases_order}
use Rattle.std.proofs.lemmas.Bool.Decides.{nat_tests}
use Rattle.std.specs.Ordering.{nat_cmp, eq_by_cmp}
use Rattle.std.specs.declared.cmp.Ordering.TheVariants.{Less, Equal, Greater}
use Rattle.std.specs.FinMap.{entries, entries_sorted, get-entries, get-empty}
use Rattle.std.specs.FinMap.Entries.{find, below_all, is_sorted}
use Rattle.co_state.specs.Table.{Table, look, holds, first_of}
use Rattle.co_stamps.specs.Bearing.{Bearers, or_nobody, is_nobody, is_number, number_or, last_of, Agree}
use Rattle.co_stamps.specs.Stamped.{IsStamp, IsLeastFrom, IsGreatestBelow}
use Rattle.co_stamps.proofs.Agreeing.{tied, ties-itself}
use Rattle.co_state.proofs.Ties.{first, second, less}

above_of : (k j : ℕ) → nat_cmp k j ≡ Less → k < j
above_of k j e = by (cases_order k j)
  where
    by : (k ≡ j) ⊎ ((k < j) ⊎ (j < k)) → k < j
    by (inl q) = absurd (let g : Less ≡ Equal = sym e ∙ sym (nat_cmp_is k j Equal q) in cc)
    by (inr (inl l)) = l
    by (inr (inr m)) = absurd (let g : Less ≡ Greater = sym e ∙ sym (nat_cmp_is k j Greater m) in cc)

module _ {X : Type 0} where
  -- a number that is found is that of the first entry, or is found behind it
  found_case : (f : ℕ × X) (fs : List (ℕ × X)) (k : ℕ) → is_some (find nat_cmp k (f ∷ fs)) ≡ true → (k ≡ f.0) ⊎ (is_some (find nat_cmp k fs) ≡ true)
  found_case f fs k h = by (eq_by_cmp nat_cmp k f.0) refl h
    where
      by : (b : Bool) → eq_by_cmp nat_cmp k f.0 ≡ b → is_some (cond b (Some f.1) (find nat_cmp k fs)) ≡ true → (k ≡ f.0) ⊎ (is_some (find nat_cmp k fs) ≡ true)
      by true e h = inl (tied k f.0 e)
      by false e h = inr h

  found_first : (f : ℕ × X) (fs : List (ℕ × X)) → is_some (find nat_cmp f.0 (f ∷ fs)) ≡ true
  found_first f fs = ap (λ b. is_some (cond b (Some f.1) (find nat_cmp f.0 fs))) (ties-itself f.0)

  found_later : (f : ℕ × X) (fs : List (ℕ × X)) (k : ℕ) → is_some (find nat_cmp k fs) ≡ true → is_some (find nat_cmp k (f ∷ fs)) ≡ true
  found_later f fs k h = by (eq_by_cmp nat_cmp k f.0)
    where
      by : (b : Bool) → is_some (cond b (Some f.1) (find nat_cmp k fs)) ≡ true
      by true = refl
      by false = h

  -- entries in order stand above the first one
  found_above : (q : ℕ) (es : List (ℕ × X)) (k : ℕ) → T (below_all nat_cmp q es) → is_some (find nat_cmp k es) ≡ true → q < k
  found_above q [] k s h = absurd (true≢false (sym h))
  found_above q (f ∷ fs) k s h = by (found_above q fs k (second _ _ s)) (found_case f fs k h)
    where
      by : (is_some (find nat_cmp k fs) ≡ true → q < k) → (k ≡ f.0) ⊎ (is_some (find nat_cmp k fs) ≡ true) → q < k
      by next (inl e) = let l : q < f.0 = above_of q f.0 (less _ (first _ _ s)) in omega (arith, e, l)
      by next (inr g) = next g

  -- ---- the first entry at or above a number, of entries in order
  abbrev pub IsFirst : ℕ → List (ℕ × X) → Option ℕ → Type 0
  IsFirst from es None = (k : ℕ) → is_some (find nat_cmp k es) ≡ true → k < from
  IsFirst from es (Some n) = (is_some (find nat_cmp n es) ≡ true) × (from ≤ n) × ((k : ℕ) → is_some (find nat_cmp k es) ≡ true → from ≤ k → n ≤ k)

  first_behind : (from : ℕ) (f : ℕ × X) (fs : List (ℕ × X)) (o : Option ℕ) → f.0 < from → IsFirst from fs o → IsFirst from (f ∷ fs) o
  first_behind from f fs None l h = λ k g. by k (found_case f fs k g)
    where
      by : (k : ℕ) → (k ≡ f.0) ⊎ (is_some (find nat_cmp k fs) ≡ true) → k < from
      by k (inl e) = omega (arith, e, l)
      by k (inr g) = h k g
  first_behind from f fs (Some n) l h = (found_later f fs n h.0, h.1, λ k g above. by k above (found_case f fs k g))
    where
      by : (k : ℕ) → from ≤ k → (k ≡ f.0) ⊎ (is_some (find nat_cmp k fs) ≡ true) → n ≤ k
      by k above (inl e) = absurd (omega (arith, e, l, above))
      by k above (inr g) = h.2 k g above

  first_here : (from : ℕ) (f : ℕ × X) (fs : List (ℕ × X)) → from ≤ f.0 → T (below_all nat_cmp f.0 fs) → IsFirst from (f ∷ fs) (Some f.0)
  first_here from f fs l s = (found_first f fs, l, λ k g above. by k (found_case f fs k g))
    where
      by : (k : ℕ) → (k ≡ f.0) ⊎ (is_some (find nat_cmp k fs) ≡ true) → f.0 ≤ k
      by k (inl e) = omega (arith, e)
      by k (inr g) = let m = found_above f.0 fs k s g in omega (arith, m)

  pub first_is : (from : ℕ) (es : List (ℕ × X)) → T (is_sorted nat_cmp es) → IsFirst from es (first_of (filter (λ e. nat_le from e.0) es))
  first_is from [] s = λ k g. absurd (true≢false (sym g))
  first_is from (f ∷ fs) s = by (first_is from fs (second _ _ s)) (nat_le from f.0) refl
    where
      by : IsFirst from fs (first_of (filter (λ e. nat_le from e.0) fs)) → (b : Bool) → nat_le from f.0 ≡ b
          → IsFirst from (f ∷ fs) (first_of (cond b (f ∷ filter (λ e. nat_le from e.0) fs) (filter (λ e. nat_le from e.0) fs)))
      by next true e = first_here from f fs (grind (arith, nat_tests)) (first _ _ s)
      by next false e = first_behind from f fs (first_of (filter (λ e. nat_le from e.0) fs)) (grind (arith, nat_tests)) next

  -- ---- the last entry below a number
  abbrev pub IsLast : ℕ → List (ℕ × X) → Option ℕ → Type 0
  IsLast end es None = (k : ℕ) → is_some (find nat_cmp k es) ≡ true → end ≤ k
  IsLast end es (Some n) = (is_some (find nat_cmp n es) ≡ true) × (n < end) × ((k : ℕ) → is_some (find nat_cmp k es) ≡ true → k < end → k ≤ n)

  last_here : (end : ℕ) (f : ℕ × X) (fs : List (ℕ × X)) (o : Option ℕ) → f.0 < end → T (below_all nat_cmp f.0 fs) → IsLast end fs o → IsLast end (f ∷ fs) (Some (number_or f.0 o))
  last_here end f fs None l s h = (found_first f fs, l, λ k g below. by k below (found_case f fs k g))
    where
      by : (k : ℕ) → k < end → (k ≡ f.0) ⊎ (is_some (find nat_cmp k fs) ≡ true) → k ≤ f.0
      by k below (inl e) = omega (arith, e)
      by k below (inr g) = let m = h k g in absurd (omega (arith, m, below))
  last_here end f fs (Some n) l s h = (found_later f fs n h.0, h.1, λ k g below. by k below (found_case f fs k g))
    where
      by : (k : ℕ) → k < end → (k ≡ f.0) ⊎ (is_some (find nat_cmp k fs) ≡ true) → k ≤ n
      by k below (inl e) = let m = found_above f.0 fs n s h.0 in omega (arith, e, m)
      by k below (inr g) = h.2 k g below

  last_behind : (end : ℕ) (f : ℕ × X) (fs : List (ℕ × X)) (o : Option ℕ) → end ≤ f.0 → IsLast end fs o → IsLast end (f ∷ fs) o
  last_behind end f fs None l h = λ k g. by k (found_case f fs k g)
    where
      by : (k : ℕ) → (k ≡ f.0) ⊎ (is_some (find nat_cmp k fs) ≡ true) → end ≤ k
      by k (inl e) = omega (arith, e, l)
      by k (inr g) = h k g
  last_behind end f fs (Some n) l h = (found_later f fs n h.0, h.1, λ k g below. by k below (found_case f fs k g))
    where
      by : (k : ℕ) → k < end → (k ≡ f.0) ⊎ (is_some (find nat_cmp k fs) ≡ true) → k ≤ n
      by k below (inl e) = absurd (omega (arith, e, l, below))
      by k below (inr g) = h.2 k g below

  pub last_is : (end : ℕ) (es : List (ℕ × X)) → T (is_sorted nat_cmp es) → IsLast end es (last_of (filter (λ e. nat_lt e.0 end) es))
  last_is end [] s = λ k g. absurd (true≢false (sym g))
  last_is end (f ∷ fs) s = by (last_is end fs (second _ _ s)) (nat_lt f.0 end) refl
    where
      by : IsLast end fs (last_of (filter (λ e. nat_lt e.0 end) fs)) → (b : Bool) → nat_lt f.0 end ≡ b
          → IsLast end (f ∷ fs) (last_of (cond b (f ∷ filter (λ e. nat_lt e.0 end) fs) (filter (λ e. nat_lt e.0 end) fs)))
      by next true e = last_here end f fs (last_of (filter (λ e. nat_lt e.0 end) fs)) (grind (arith, nat_tests)) (first _ _ s) next
      by next false e = last_behind end f fs (last_of (filter (λ e. nat_lt e.0 end) fs)) (grind (arith, nat_tests)) next

-- ---- numbers that are borne
somebody : (es : List (ℕ × Unit {0})) → (length es == 0) ≡ false → (t : ℕ) × (is_some (find nat_cmp t es) ≡ true)
somebody [] e = absurd (true≢false (sym (eq-eqb (length {A = ℕ × Unit {0}} []) 0 refl) ∙ e))
somebody (f ∷ fs) e = (f.0, found_first f fs)

number_of : (o : Option ℕ) (n : ℕ) → is_number n o ≡ true → o ≡ Some n
number_of None n h = absurd (true≢false (sym h))
number_of (Some m) n h = ap Some (tied m n h)

number_is : (o : Option ℕ) (n : ℕ) → o ≡ Some n → is_number n o ≡ true
number_is o n e = ap (is_number n) e ∙ ties-itself n

borne_by : (numbers : Table ℕ) (m : Bearers) (n : ℕ) → Agree numbers m → is_some (find nat_cmp n (entries m)) ≡ true → IsStamp numbers n
borne_by numbers m n a h = by (look m n) refl
  where
    by : (o : Option (Table (Unit {0}))) → look m n ≡ o → IsStamp numbers n
    by None e = absurd (true≢false (sym h ∙ ap is_some (sym (get-entries m n) ∙ e)))
    by (Some tab) e =
        let r = somebody (entries tab) (ap is_nobody (sym e) ∙ a.borne n) in
        (r.0, number_of (look numbers r.0) n (sym (a.same n r.0) ∙ ap (λ o. holds (or_nobody o) r.0) e ∙ ap is_some (get-entries tab r.0) ∙ r.1))

borne_at : (numbers : Table ℕ) (m : Bearers) (t n : ℕ) → Agree numbers m → look numbers t ≡ Some n → is_some (find nat_cmp n (entries m)) ≡ true
borne_at numbers m t n a e = by (look m n) refl
  where
    by : (o : Option (Table (Unit {0}))) → look m n ≡ o → is_some (find nat_cmp n (entries m)) ≡ true
    by None f = absurd (true≢false (sym (a.same n t ∙ number_is (look numbers t) n e) ∙ ap (λ o. holds (or_nobody o) t) f ∙ ap is_some (get-empty nat_cmp t)))
    by (Some tab) f = ap is_some (sym (get-entries m n) ∙ f)

pub least_borne : (numbers : Table ℕ) (m : Bearers) (from : ℕ) (o : Option ℕ) → Agree numbers m → o ≡ first_of (filter (λ e. nat_le from e.0) (entries m)) → IsLeastFrom numbers from o
least_borne numbers m from o a e = by o (subst (IsFirst from (entries m)) (sym e) (first_is from (entries m) (entries_sorted m)))
  where
    by : (o : Option ℕ) → IsFirst from (entries m) o → IsLeastFrom numbers from o
    by None h = λ t n g. h n (borne_at numbers m t n a g)
    by (Some least) h = record {
      is_stamp = borne_by numbers m least a h.0;
      is_above = h.1;
      is_least = λ t n g above. h.2 n (borne_at numbers m t n a g) above;
    }

pub greatest_borne : (numbers : Table ℕ) (m : Bearers) (end : ℕ) (o : Option ℕ) → Agree numbers m → o ≡ last_of (filter (λ e. nat_lt e.0 end) (entries m)) → IsGreatestBelow numbers end o
greatest_borne numbers m end o a e = by o (subst (IsLast end (entries m)) (sym e) (last_is end (entries m) (entries_sorted m)))
  where
    by : (o : Option ℕ) → IsLast end (entries m) o → IsGreatestBelow numbers end o
    by None h = λ t n g. h n (borne_at numbers m t n a g)
    by (Some greatest) h = record {
      is_stamp = borne_by numbers m greatest a h.0;
      is_below = h.1;
      is_greatest = λ t n g below. h.2 n (borne_at numbers m t n a g) below;
    }
