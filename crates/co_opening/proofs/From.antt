-- Facts of the elements of lists by their places.
use Rattle.std.proofs.Common.{◌≡◌, ℕ, zero, suc, ◌+◌, ◌≤◌, ◌<◌, List, [], ◌∷◌, ◌++◌, length, get_or, refl, ap, subst, ◌∙◌, arith}
use Rattle.std.proofs.lemmas.List.{length_push}
use Rattle.std.specs.Prelude.{slice_get, Some, None}
use Rattle.std.specs.List.{AllByRecursion}
use Rattle.co_durable.specs.Pairs.{EachPair}
use Rattle.co_opening.specs.From.{AllFrom, BothFrom}

-- one element more at the end
pub one_longer : {A : Type 0} (n : ℕ) (xs more : List A) (x : A) → more ≡ xs ++ x ∷ [] → length xs ≡ n → length more ≡ n + 1
one_longer n xs more x pushed many = ap length pushed ∙ length_push xs x ∙ ap (λ k. k + 1) many

pub all_from_push : {A : Type 0} (P : ℕ → A → Type 0) (p : ℕ) (xs : List A) (x : A) → AllFrom P p xs → P (p + length xs) x → AllFrom P p (xs ++ x ∷ [])
all_from_push P p [] x all here = (subst (λ n. P n x) (let e : p + 0 ≡ p = omega arith in e) here, tt)
all_from_push P p (y ∷ ys) x all here = (all.0, all_from_push P (suc p) ys x all.1 (subst (λ n. P n x) (let e : p + suc (length ys) ≡ suc p + length ys = omega arith in e) here))

-- from the front of a list, whose last element has this place
pub all_from_next : {A : Type 0} (P : ℕ → A → Type 0) (xs : List A) (n : ℕ) (x : A) → length xs ≡ n → AllFrom P 0 xs → P n x → AllFrom P 0 (xs ++ x ∷ [])
all_from_next P xs n x many all here = all_from_push P 0 xs x all (subst (λ k. P k x) (let e : n ≡ 0 + length xs = omega (arith, many) in e) here)

pub all_from_map : {A : Type 0} (P Q : ℕ → A → Type 0) (p : ℕ) (xs : List A) → ((q : ℕ) (x : A) → p ≤ q → q < p + length xs → P q x → Q q x) → AllFrom P p xs → AllFrom Q p xs
all_from_map P Q p [] f all = tt
all_from_map P Q p (x ∷ xs) f all = (
  f p x (omega arith) (let h : p < p + suc (length xs) = omega arith in h) all.0,
  all_from_map P Q (suc p) xs (λ q y low high. f q y (omega (arith, low)) (let h : q < p + suc (length xs) = omega (arith, high) in h)) all.1,
)

pub all_from_at : {A : Type 0} (P : ℕ → A → Type 0) (p : ℕ) (xs : List A) (k : ℕ) (x : A) → AllFrom P p xs → slice_get xs k ≡ Some x → P (p + k) x
all_from_at P p [] k x all is = absurd (let e : None ≡ Some x = is in cc)
all_from_at P p (y ∷ ys) zero x all is =
    let e : Some y ≡ Some x = is in
    let same : y ≡ x = cc in
    subst (λ n. P n x) (let h : p ≡ p + 0 = omega arith in h) (subst (P p) same all.0)
all_from_at P p (y ∷ ys) (suc k) x all is = subst (λ n. P n x) (let h : suc p + k ≡ p + suc k = omega arith in h) (all_from_at P (suc p) ys k x all.1 is)

pub all_from_get : {A : Type 0} (P : ℕ → A → Type 0) (p : ℕ) (xs : List A) (k : ℕ) (d : A) → AllFrom P p xs → k < length xs → P (p + k) (get_or xs k d)
all_from_get P p [] k d all h = absurd (omega (arith, h))
all_from_get P p (y ∷ ys) zero d all h = subst (λ n. P n y) (let e : p ≡ p + 0 = omega arith in e) all.0
all_from_get P p (y ∷ ys) (suc k) d all h = subst (λ n. P n (get_or ys k d)) (let e : suc p + k ≡ p + suc k = omega arith in e) (all_from_get P (suc p) ys k d all.1 (omega (arith, h)))

pub all_or : {A : Type 0} (P : A → Type 0) (xs : List A) (k : ℕ) (d : A) → AllByRecursion P xs → P d → P (get_or xs k d)
all_or P [] k d all h = h
all_or P (x ∷ xs) zero d all h = all.0
all_or P (x ∷ xs) (suc k) d all h = all_or P xs k d all.1 h

pub all_get : {A : Type 0} (P : A → Type 0) (xs : List A) (k : ℕ) (d : A) → AllByRecursion P xs → k < length xs → P (get_or xs k d)
all_get P [] k d all h = absurd (omega (arith, h))
all_get P (x ∷ xs) zero d all h = all.0
all_get P (x ∷ xs) (suc k) d all h = all_get P xs k d all.1 (omega (arith, h))

pub past_end : {A : Type 0} (xs : List A) (k : ℕ) (d : A) → length xs ≤ k → get_or xs k d ≡ d
past_end [] k d h = refl
past_end (x ∷ xs) zero d h = absurd (omega (arith, h))
past_end (x ∷ xs) (suc k) d h = past_end xs k d (omega (arith, h))

-- what is left of two lists begins with an element of each
pub both_next : {A B : Type 0} (R : ℕ → A → B → Type 0) (p : ℕ) (xs more : List A) (ys rest : List B) (x : A) (y : B) → xs ≡ x ∷ more → ys ≡ y ∷ rest → BothFrom R p xs ys → R p x y × BothFrom R (suc p) more rest
both_next R p xs more ys rest x y is are both =
    subst (λ (l : List _). BothFrom R p (x ∷ more) l) are (subst (λ (l : List _). BothFrom R p l ys) is both)

-- one of them does not end before the other
pub both_left : {A B : Type 0} (R : ℕ → A → B → Type 0) (p : ℕ) (xs more : List A) (x : A) (ys : List B) → xs ≡ x ∷ more → 0 ≡ length ys → BothFrom R p xs ys → ⊥
both_left R p xs more x [] is none both = subst (λ (l : List _). BothFrom R p l []) is both
both_left R p xs more x (y ∷ ys) is none both = absurd (omega (arith, none))

pub pairs_map : {A B : Type 0} (R S : A → B → Type 0) → ((x : A) (y : B) → R x y → S x y) → (xs : List A) (ys : List B) → EachPair R xs ys → EachPair S xs ys
pairs_map R S f [] [] p = tt
pairs_map R S f [] (y ∷ ys) p = absurd p
pairs_map R S f (x ∷ xs) [] p = absurd p
pairs_map R S f (x ∷ xs) (y ∷ ys) p = (f x y p.0, pairs_map R S f xs ys p.1)

pub all_from_first : {A : Type 0} (P : ℕ → A → Type 0) (xs : List A) (k : ℕ) (x : A) → AllFrom P 0 xs → slice_get xs k ≡ Some x → P k x
all_from_first P xs k x all is = subst (λ n. P n x) (let e : 0 + k ≡ k = omega arith in e) (all_from_at P 0 xs k x all is)
