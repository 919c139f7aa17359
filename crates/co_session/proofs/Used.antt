-- A search among numbers that ascend.
use Rattle.std.proofs.Common.{◌≡◌, ◌≢◌, ℕ, ◌<◌, ◌≤◌, ◌==◌, true, false, ◌||◌, List, [], ◌∷◌, length, get_or, zero, suc, Result, Ok, Err, is_ok, ◌⊎◌, inl, inr, subst, refl, sym, ap, ◌∙◌, arith}
use Rattle.std.specs.Ordering.{nat_cmp}
use Rattle.std.specs.List.Sorted.{IsStrictlySortedBy, IsBinarySearchResult}
use Rattle.std.proofs.lemmas.List.Sorted.{searched}
use Rattle.std.proofs.lemmas.Map.Keys.{below_from_sorted}
use Rattle.std.proofs.lemmas.Bool.Decides.{nat_tests}
use Rattle.std.proofs.lemmas.Bool.{eq-eqb, cases_order}
use Rattle.std.proofs.Math.Bool.{or-true}
use Rattle.co_plain.specs.Numbers.{has_number}

stands : (xs : List ℕ) (i x : ℕ) → i < length xs → get_or xs i 0 ≡ x → has_number xs x ≡ true
stands [] i x l e = absurd (omega (arith, l))
stands (y ∷ ys) zero x l e = ap (λ b. b || has_number ys x) (eq-eqb y x e)
stands (y ∷ ys) (suc i) x l e = ap (λ b. (y == x) || b) (stands ys i x (omega (arith, l)) e) ∙ or-true (y == x)

lacks : (xs : List ℕ) (x : ℕ) → ((k : ℕ) → k < length xs → get_or xs k 0 ≢ x) → has_number xs x ≡ false
lacks [] x none = refl
lacks (y ∷ ys) x none =
    let first : (y == x) ≡ false = grind (arith, nat_tests, none 0 (omega arith)) in
    let rest : has_number ys x ≡ false = lacks ys x (λ k l e. none (suc k) (omega (arith, l)) e) in
    ap (λ b. b || has_number ys x) first ∙ rest

rises : (xs : List ℕ) → IsStrictlySortedBy nat_cmp xs → (i j : ℕ) → i ≤ j → j < length xs → get_or xs i 0 ≤ get_or xs j 0
rises xs s i j l b = by (cases_order i j)
  where
    by : (i ≡ j) ⊎ ((i < j) ⊎ (j < i)) → get_or xs i 0 ≤ get_or xs j 0
    by (inl e) = subst (λ k. get_or xs i 0 ≤ get_or xs k 0) e (omega arith)
    by (inr (inl under)) = omega (arith, below_from_sorted xs i j 0 s under b)
    by (inr (inr over)) = absurd (omega (arith, l, over))

pub found_used : (xs : List ℕ) (x : ℕ) (r : Result ℕ ℕ) → IsStrictlySortedBy nat_cmp xs → IsBinarySearchResult (λ y. nat_cmp y x) xs r → is_ok r ≡ has_number xs x
found_used xs x (Ok i) s p = let h = searched xs x (Ok i) p (rises xs s) in sym (stands xs i x h.0 h.1)
found_used xs x (Err i) s p = let h = searched xs x (Err i) p (rises xs s) in sym (lacks xs x (λ k l e. by h k l e (cases_order k i)))
  where
    by : (i ≤ length xs) × ((k : ℕ) → k < i → get_or xs k 0 < x) × ((k : ℕ) → i ≤ k → k < length xs → x < get_or xs k 0)
        → (k : ℕ) → k < length xs → get_or xs k 0 ≡ x → (k ≡ i) ⊎ ((k < i) ⊎ (i < k)) → ⊥
    by h k l e (inl same) = absurd (omega (arith, e, h.2 k (omega (arith, same)) l))
    by h k l e (inr (inl under)) = absurd (omega (arith, e, h.1 k under))
    by h k l e (inr (inr over)) = absurd (omega (arith, e, h.2 k (omega (arith, over)) l))
