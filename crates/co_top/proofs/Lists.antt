-- Lists that get one more element at their end.
use Rattle.std.proofs.Common.{◌≡◌, ◌⊎◌, inl, inr, ℕ, zero, suc, ◌≤◌, ◌<◌, ◌+◌, List, [], ◌∷◌, ◌++◌, map, length, take, get_or, slice_get, Some, refl, ap, ◌∙◌, arith}
use Rattle.std.proofs.lemmas.Option.{slice_get_cases}

pub get_before : {A : Type 0} (xs : List A) (y d : A) (i : ℕ) → i < length xs → get_or (xs ++ y ∷ []) i d ≡ get_or xs i d
get_before [] y d i h = absurd (omega (arith, h))
get_before (x ∷ xs) y d zero h = refl
get_before (x ∷ xs) y d (suc i) h = get_before xs y d i (omega (arith, h))

pub get_last : {A : Type 0} (xs : List A) (y d : A) (i : ℕ) → i ≡ length xs → get_or (xs ++ y ∷ []) i d ≡ y
get_last [] y d zero h = refl
get_last [] y d (suc i) h = absurd (omega (arith, h))
get_last (x ∷ xs) y d zero h = absurd (omega (arith, h))
get_last (x ∷ xs) y d (suc i) h = get_last xs y d i (omega (arith, h))

pub map_more : {A B : Type 0} (f : A → B) (xs : List A) (y : A) → map f (xs ++ y ∷ []) ≡ map f xs ++ f y ∷ []
map_more f [] y = refl
map_more f (x ∷ xs) y = ap (λ zs. f x ∷ zs) (map_more f xs y)

pub map_count : {A B : Type 0} (f : A → B) (xs : List A) → length (map f xs) ≡ length xs
map_count f [] = refl
map_count f (x ∷ xs) = ap suc (map_count f xs)

pub count_more : {A : Type 0} (xs : List A) (y : A) → length (xs ++ y ∷ []) ≡ suc (length xs)
count_more [] y = refl
count_more (x ∷ xs) y = ap suc (count_more xs y)

pub take_behind : (xs ys : List ℕ) (n : ℕ) → take (length xs + n) (xs ++ ys) ≡ xs ++ take n ys
take_behind [] ys n = ap (λ k. take k ys) (let e : 0 + n ≡ n = omega arith in e)
take_behind (x ∷ xs) ys n =
    ap (λ k. take k (x ∷ (xs ++ ys))) (let e : suc (length xs) + n ≡ suc (length xs + n) = omega arith in e) ∙ ap (λ zs. x ∷ zs) (take_behind xs ys n)

-- the element at a place of a list that is long enough
pub there : {A : Type 0} (xs : List A) (i : ℕ) → i < length xs → (x : A) × (slice_get xs i ≡ Some x)
there {A} xs i h = elim (slice_get_cases xs i).1 as (λ c. (x : A) × (slice_get xs i ≡ Some x)) [ inl f ↦ (f.0, f.2) | inr past ↦ absurd (omega (arith, h, past.0)) ]

-- a number from 1 on is one more than another
pub one_less : (n : ℕ) → 1 ≤ n → (p : ℕ) × (n ≡ suc p)
one_less zero h = absurd (omega (arith, h))
one_less (suc p) h = (p, refl)

-- a number up to one more than another is that one, or below it
pub or_last : (n count : ℕ) → n ≤ suc count → (n ≤ count) ⊎ (n ≡ suc count)
or_last zero count h = inl (omega arith)
or_last (suc n) zero h = inr (omega (arith, h))
or_last (suc n) (suc count) h = elim (or_last n count (omega (arith, h))) as (λ c. (suc n ≤ suc count) ⊎ (suc n ≡ suc (suc count))) [ inl few ↦ inl (omega (arith, few)) | inr last ↦ inr (ap suc last) ]
