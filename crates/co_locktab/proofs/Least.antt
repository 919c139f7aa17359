-- The least number that passes a test.
use Rattle.std.proofs.Common.{◌≡◌, ◌⊎◌, inl, inr, T, ℕ, Bool, true, false, cond, not, ◌&&◌, ◌||◌, ◌≤◌, List, [], ◌∷◌, if◌then◌else◌, Option, None, Some, is_some, refl, sym, ap, ◌∙◌, subst, true≢false, min, arith}
use Rattle.std.specs.Prelude.{◌==◌, nat_le}
use Rattle.std.specs.List.{list_any}
use Rattle.std.specs.Ordering.{nat_cmp}
use Rattle.std.specs.declared.cmp.Ordering.TheVariants.{Less}
use Rattle.std.specs.FinMap.{entries, entries_sorted, get-entries}
use Rattle.std.specs.FinMap.Entries.{find, below_all, is_sorted}
use Rattle.std.proofs.lemmas.Bool.Decides.{nat_tests}
use Rattle.co_state.specs.Table.{holds, first_in, lesser}
use Rattle.co_locktab.specs.declared.holders.Holders.{Holders}
use Rattle.co_locktab.specs.Holding.{other_in, least_along}
use Rattle.co_locktab.specs.Locks.{IsLeast}
use Rattle.co_locktab.proofs.Orders.{same_number, one_number, number_itself}
pub use Rattle.co_state.proofs.Ties.{first, second, left_true, right_true, and_false, or_true}
use Rattle.co_state.proofs.Ties.{less}

pub or_false : (b : Bool) → (b || false) ≡ b
or_false true = refl
or_false false = refl

-- the same least number where the tests agree
pub least_same : (p q : ℕ → Bool) (found : Option ℕ) → ((u : ℕ) → p u ≡ q u) → IsLeast p found → IsLeast q found
least_same p q None same h = λ u. sym (same u) ∙ h u
least_same p q (Some t) same h = (sym (same t) ∙ h.0, λ u e. h.1 u (same u ∙ e))

pub least_nobody : IsLeast (λ u. false) None
least_nobody u = refl

either : {A : Type 0} (a b : Bool) → (a || b) ≡ true → (a ≡ true → A) → (b ≡ true → A) → A
either true b e f g = f refl
either false b e f g = g e

min_left : (t u : ℕ) → min t u ≤ t
min_left t u = omega arith

min_right : (t u : ℕ) → min t u ≤ u
min_right t u = omega arith

min_test : (p q : ℕ → Bool) (t u : ℕ) → p t ≡ true → q u ≡ true → (p (min t u) || q (min t u)) ≡ true
min_test p q t u e f = by (min t u) (picks t u)
  where
    picks_by : (t u : ℕ) (b : Bool) → nat_le t u ≡ b → (min t u ≡ t) ⊎ (min t u ≡ u)
    picks_by t u true is = inl (let h : t ≤ u = grind (arith, nat_tests) in omega arith)
    picks_by t u false is = inr (let h : u ≤ t = grind (arith, nat_tests) in omega arith)

    picks : (t u : ℕ) → (min t u ≡ t) ⊎ (min t u ≡ u)
    picks t u = picks_by t u (nat_le t u) refl

    by : (m : ℕ) → (m ≡ t) ⊎ (m ≡ u) → (p m || q m) ≡ true
    by m (inl is) = ap (λ b. b || q m) (ap p is ∙ e)
    by m (inr is) = ap (λ b. p m || b) (ap q is ∙ f) ∙ or_true (p m)

le_trans : (a b c : ℕ) → a ≤ b → b ≤ c → a ≤ c
le_trans a b c h k = omega arith

-- of two least numbers the lesser passes one of the tests first
pub least_lesser : (p q : ℕ → Bool) (a b : Option ℕ) → IsLeast p a → IsLeast q b → IsLeast (λ u. p u || q u) (lesser a b)
least_lesser p q None None h k = λ u. (λ i. h u i || k u i)
least_lesser p q None (Some u) h k = (ap (λ b. p u || b) k.0 ∙ or_true (p u), λ v e. either (p v) (q v) e (λ f. absurd (true≢false (sym f ∙ h v))) (k.1 v))
least_lesser p q (Some t) None h k = (ap (λ b. b || q t) h.0, λ v e. either (p v) (q v) e (h.1 v) (λ f. absurd (true≢false (sym f ∙ k v))))
least_lesser p q (Some t) (Some u) h k =
    (min_test p q t u h.0 k.0, λ v e. either (p v) (q v) e (λ f. le_trans (min t u) t v (min_left t u) (h.1 v f)) (λ f. le_trans (min t u) u v (min_right t u) (k.1 v f)))

below : (k v : ℕ) → nat_cmp k v ≡ Less → k ≤ v
below k v e = grind (arith, nat_tests)

-- what is found is not below the first one
pub found_above : {X : Type 0} (k v : ℕ) (es : List (ℕ × X)) → T (below_all nat_cmp k es) → is_some (find nat_cmp v es) ≡ true → k ≤ v
found_above k v [] h e = absurd (true≢false (sym e))
found_above k v (f ∷ es) h e = by (same_number v f.0) refl e (found_above k v es (second _ _ h))
  where
    by : (b : Bool) → same_number v f.0 ≡ b → is_some (cond b (Some f.1) (find nat_cmp v es)) ≡ true → (is_some (find nat_cmp v es) ≡ true → k ≤ v) → k ≤ v
    by true t is rest = subst (λ j. k ≤ j) (sym (one_number v f.0 t)) (below k f.0 (less _ (first _ _ h)))
    by false t is rest = rest is

not_other : (t u k : ℕ) → not (k == t) ≡ false → u ≡ k → not (u == t) ≡ false
not_other t u k e is = ap (λ j. not (j == t)) is ∙ e

module _ {X : Type 0} (t : ℕ) where
  skipped : (u : ℕ) (e : ℕ × X) (es : List (ℕ × X)) (b : Bool) → not (e.0 == t) ≡ false → same_number u e.0 ≡ b
      → (not (u == t) && is_some (find nat_cmp u es)) ≡ (not (u == t) && is_some (cond b (Some e.1) (find nat_cmp u es)))
  skipped u e es true n is = (λ i. not_other t u e.0 n (one_number u e.0 is) i && is_some (find nat_cmp u es)) ∙ sym (λ i. not_other t u e.0 n (one_number u e.0 is) i && true)
  skipped u e es false n is = refl

  first_by : (e : ℕ × X) (es : List (ℕ × X)) (b : Bool) → not (e.0 == t) ≡ b → T (below_all nat_cmp e.0 es)
      → IsLeast (λ u. not (u == t) && is_some (find nat_cmp u es)) (first_in (λ u x. not (u == t)) es)
      → IsLeast (λ u. not (u == t) && is_some (find nat_cmp u (e ∷ es))) (if b then Some e.0 else first_in (λ u x. not (u == t)) es)
  first_by e es true is h k = (
    (λ i. is i && is_some (cond (number_itself e.0 i) (Some e.1) (find nat_cmp e.0 es))),
    λ v f. by v (same_number v e.0) refl (right_true _ _ f),
  )
    where
      by : (v : ℕ) (b : Bool) → same_number v e.0 ≡ b → is_some (cond b (Some e.1) (find nat_cmp v es)) ≡ true → e.0 ≤ v
      by v true s f = subst (λ j. e.0 ≤ j) (sym (one_number v e.0 s)) (omega arith)
      by v false s f = found_above e.0 v es h f
  first_by e es false is h k =
      least_same _ _ (first_in (λ u x. not (u == t)) es) (λ u. skipped u e es (same_number u e.0) is refl) k

  -- the first other one of ascending numbers is the least
  pub least_first : (es : List (ℕ × X)) → T (is_sorted nat_cmp es) → IsLeast (λ u. not (u == t) && is_some (find nat_cmp u es)) (first_in (λ u x. not (u == t)) es)
  least_first [] h = λ u. and_false (not (u == t))
  least_first (e ∷ es) h = first_by e es (not (e.0 == t)) refl (first _ _ h) (least_first es (second _ _ h))

pub least_other : (t : ℕ) (h : Holders) → IsLeast (λ u. not (u == t) && holds h.txns u) (other_in t h)
least_other t h =
    least_same _ _ (other_in t h) (λ u. ap (λ o. not (u == t) && is_some o) (sym (get-entries h.txns u)))
    (least_first t (entries h.txns) (entries_sorted h.txns))

spread : (p n h a : Bool) → ((p || (n && h)) || (n && a)) ≡ (p || (n && (h || a)))
spread true n h a = refl
spread false true h a = refl
spread false false h a = refl

-- along some locks
pub least_along_all : {K : Type 0} (t : ℕ) (es : List (K × Holders)) (p : ℕ → Bool) (least : Option ℕ) → IsLeast p least
    → IsLeast (λ u. p u || (not (u == t) && list_any (λ e. holds e.1.txns u) es)) (least_along t least es)
least_along_all t [] p least h = least_same p _ least (λ u. sym (ap (λ b. p u || b) (and_false (not (u == t))) ∙ or_false (p u))) h
least_along_all t (e ∷ es) p least h =
    least_same _ _ (least_along t (lesser least (other_in t e.1)) es) (λ u. spread (p u) (not (u == t)) (holds e.1.txns u) (list_any (λ f. holds f.1.txns u) es))
    (least_along_all t es (λ u. p u || (not (u == t) && holds e.1.txns u)) (lesser least (other_in t e.1)) (least_lesser p _ least (other_in t e.1) h (least_other t e.1)))
