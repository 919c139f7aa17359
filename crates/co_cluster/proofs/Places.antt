-- A list of nodes beside a family by number: the node at each place goes with the entry of the next number.
use Rattle.std.proofs.Common.{◌≡◌, T, ℕ, zero, suc, ◌<◌, ◌≢◌, ◌⊎◌, inl, inr, eqb→eq, eq-eqb, Bool, true, false, if◌then◌else◌, List, [], ◌∷◌, length, set, slice_get, get_or, None, Some, refl, sym, ap, ◌∙◌, subst, arith, pred}
use Rattle.std.specs.Prelude.{◌==◌}
use Rattle.co_serial.specs.SerialRun.{with_at}

module _ {M X : Type 0} (R : ℕ → M → X → Type 0) where
  abbrev pub Each : List M → (ℕ → X) → Type 0
  Each ms f = (p : ℕ) (m : M) → slice_get ms p ≡ Some m → R p m (f (suc p))

some_is : {A : Type 0} {a b : A} → Some a ≡ Some b → a ≡ b
some_is e = grind (arith, e)

set_same : {M : Type 0} (ms : List M) (p : ℕ) (m q : M) → slice_get (set ms p m) p ≡ Some q → m ≡ q
set_same [] zero m q e = absurd (let w : None ≡ Some q = e in cc)
set_same [] (suc p) m q e = absurd (let w : None ≡ Some q = e in cc)
set_same (x ∷ ms) zero m q e = some_is e
set_same (x ∷ ms) (suc p) m q e = set_same ms p m q e

pub set_other : {M : Type 0} (ms : List M) (p i : ℕ) (m : M) → p ≢ i → slice_get (set ms p m) i ≡ slice_get ms i
set_other [] p i m h = refl
set_other (x ∷ ms) zero zero m h = absurd (h refl)
set_other (x ∷ ms) zero (suc i) m h = refl
set_other (x ∷ ms) (suc p) zero m h = refl
set_other (x ∷ ms) (suc p) (suc i) m h = set_other ms p i m (λ e. h (ap suc e))

pub at_same : {X : Type 0} (f : ℕ → X) (k : ℕ) (x : X) → with_at f k x k ≡ x
at_same f k x = by (k == k) refl
  where
    by : (b : Bool) → (k == k) ≡ b → (if b then x else f k) ≡ x
    by true e = refl
    by false e = absurd (let w : (k == k) ≡ true = eq-eqb k k refl in cc)

pub at_other : {X : Type 0} (f : ℕ → X) (k i : ℕ) (x : X) → k ≢ i → with_at f k x i ≡ f i
at_other f k i x h = by (k == i) refl
  where
    by : (b : Bool) → (k == i) ≡ b → (if b then x else f i) ≡ f i
    by true e = absurd (h (eqb→eq k i (subst T (sym e) tt)))
    by false e = refl

module _ {M X : Type 0} (R : ℕ → M → X → Type 0) where
  -- one node is another one, and so is the entry of its number
  pub each_changed : (ms : List M) (f : ℕ → X) (p : ℕ) (m : M) (x : X) → Each R ms f → R p m x → Each R (set ms p m) (with_at f (suc p) x)
  each_changed ms f p m x each at i q is = by (p == i) refl
    where
      by : (b : Bool) → (p == i) ≡ b → R i q (with_at f (suc p) x (suc i))
      by true e =
          let same : p ≡ i = eqb→eq p i (subst T (sym e) tt) in
          subst (λ j. slice_get (set ms p m) j ≡ Some q → R j q (with_at f (suc p) x (suc j))) same
          (λ found. subst (λ n. R p n (with_at f (suc p) x (suc p))) (set_same ms p m q found) (subst (λ y. R p m y) (sym (at_same f (suc p) x)) at)) is
      by false e =
          let other : p ≢ i = λ same. let w : (p == i) ≡ true = eq-eqb p i same in absurd (let z : false ≡ true = sym e ∙ w in cc) in
          subst (λ y. R i q y) (sym (at_other f (suc p) (suc i) x (λ same. other (ap pred same)))) (each i q (sym (set_other ms p i m other) ∙ is))

-- the node at a place of the changed list is the new one, or one that stays
pub set_cases : {M : Type 0} (ms : List M) (p i : ℕ) (m q : M) → slice_get (set ms p m) i ≡ Some q → ((p ≡ i) × (m ≡ q)) ⊎ ((p ≢ i) × (slice_get ms i ≡ Some q))
set_cases ms p i m q is = by (p == i) refl
  where
    by : (b : Bool) → (p == i) ≡ b → ((p ≡ i) × (m ≡ q)) ⊎ ((p ≢ i) × (slice_get ms i ≡ Some q))
    by true e =
        let same : p ≡ i = eqb→eq p i (subst T (sym e) tt) in
        inl (same, set_same ms p m q (subst (λ j. slice_get (set ms p m) j ≡ Some q) (sym same) is))
    by false e =
        let other : p ≢ i = λ same. let w : (p == i) ≡ true = eq-eqb p i same in absurd (let z : false ≡ true = sym e ∙ w in cc) in
        inr (other, sym (set_other ms p i m other) ∙ is)

-- a place of the list has a node
pub within_list : {M : Type 0} (ms : List M) (p : ℕ) (m : M) → slice_get ms p ≡ Some m → p < length ms
within_list [] p m is = absurd (let w : None ≡ Some m = is in cc)
within_list (x ∷ ms) zero m is = omega arith
within_list (x ∷ ms) (suc p) m is = let h = within_list ms p m is in omega (arith, h)

-- the node that is found at a place of the list
pub at_place : {M : Type 0} (ms : List M) (p : ℕ) (m : M) → p < length ms → m ≡ get_or ms p m → slice_get ms p ≡ Some m
at_place [] p m h e = absurd (omega (arith, h))
at_place (x ∷ ms) zero m h e = ap Some (sym e)
at_place (x ∷ ms) (suc p) m h e = at_place ms p m (omega (arith, h)) e
