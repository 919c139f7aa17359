-- What passes at most once: one list behind another, and at most one message that comes of each cause.
use Rattle.std.proofs.Common.{◌≡◌, ◌⊎◌, inl, inr, ℕ, Bool, true, false, ◌==◌, ◌+◌, ◌<◌, ◌≤◌, ◌||◌, cond, List, [], ◌∷◌, ◌++◌, refl, sym, ap, ◌∙◌, subst, arith}
use Rattle.std.specs.List.{list_any, count_by}
use Rattle.std.proofs.lemmas.Bool.{or_from, or_parts, or_cases, eqb-true, false_from_ne_true}
use Rattle.std.proofs.lemmas.List.Folds.{list_any-append}
use Rattle.std.proofs.lemmas.List.Sums.{sum_by-cons}
use Rattle.co_base.specs.declared.part.Part.{Part}
use Rattle.co_base.proofs.Parts.{above, ascends, ascends_more}
use Rattle.co_plain.specs.declared.session.Told.{Told}
use Rattle.co_plain.specs.CoordStep.{members_of}
use Rattle.co_plain.specs.Sessions.{parts_of}
use Rattle.co_law_once.specs.Once.{AtMostOnce}

-- where it passes in front, it does not behind
pub once_split : {X : Type 0} (p : X → Bool) (xs ys : List X) → AtMostOnce p (xs ++ ys) → list_any p xs ≡ true → list_any p ys ≡ false
once_split p [] ys a h = absurd (let z : false ≡ true = h in cc)
once_split p (x ∷ xs) ys a h = by (once_split p xs ys a.1) (or_cases (p x) (list_any p xs) h)
  where
    by : (list_any p xs ≡ true → list_any p ys ≡ false) → (p x ≡ true) ⊎ (list_any p xs ≡ true) → list_any p ys ≡ false
    by rest (inl e) = (or_parts (list_any p xs) (list_any p ys) (sym (list_any-append p xs ys) ∙ a.0 e)).1
    by rest (inr e) = rest e

pub once_behind : {X : Type 0} (p : X → Bool) (xs ys : List X) → AtMostOnce p (xs ++ ys) → AtMostOnce p ys
once_behind p [] ys a = a
once_behind p (x ∷ xs) ys a = once_behind p xs ys a.1

-- a test that passes less often
pub none_less : {X : Type 0} (p q : X → Bool) → ((x : X) → p x ≡ true → q x ≡ true) → (xs : List X) → list_any q xs ≡ false → list_any p xs ≡ false
none_less p q less [] h = refl
none_less p q less (x ∷ xs) h =
    let k = or_parts (q x) (list_any q xs) h in
    or_from (p x) (list_any p xs) (false_from_ne_true (p x) (λ e. let z : true ≡ false = sym (less x e) ∙ k.0 in cc)) (none_less p q less xs k.1)

pub once_less : {X : Type 0} (p q : X → Bool) → ((x : X) → p x ≡ true → q x ≡ true) → (xs : List X) → AtMostOnce q xs → AtMostOnce p xs
once_less p q less [] a = tt
once_less p q less (x ∷ xs) a = (λ e. none_less p q less xs (a.0 (less x e)), once_less p q less xs a.1)

-- participants ascend, so each stands once
parts_ascend : (told : List Told) → ascends (parts_of told)
parts_ascend [] = tt
parts_ascend (o ∷ os) = ascends_more o.site.member (parts_of os) (parts_ascend os)

none_above : (m k : ℕ) (ps : List Part) → above k ps → k ≡ m → list_any (λ j. j == m) (members_of ps) ≡ false
none_above m k [] a e = refl
none_above m k (p ∷ ps) a e =
    or_from (p.member == m) (list_any (λ j. j == m) (members_of ps))
    (false_from_ne_true (p.member == m) (λ h. let q : p.member ≡ m = eqb-true p.member m h in let l : k < k = subst (λ j. k < j) (q ∙ sym e) a.0 in omega (arith, l)))
    (none_above m k ps a.1 e)

ascending_once : (m : ℕ) (ps : List Part) → ascends ps → AtMostOnce (λ j. j == m) (members_of ps)
ascending_once m [] a = tt
ascending_once m (p ∷ ps) a = (λ h. none_above m p.member ps a.0 (eqb-true p.member m h), ascending_once m ps a.1)

pub members_once : (m : ℕ) (told : List Told) → AtMostOnce (λ j. j == m) (members_of (parts_of told))
members_once m told = ascending_once m (parts_of told) (parts_ascend told)

-- ---- how many pass

count_more : {X : Type 0} (p : X → Bool) (x : X) (xs : List X) → count_by p (x ∷ xs) ≡ cond (p x) 1 0 + count_by p xs
count_more p x xs = sum_by-cons (λ y. cond (p y) 1 0) x xs

count_none : {X : Type 0} (p : X → Bool) (xs : List X) → list_any p xs ≡ false → count_by p xs ≡ 0
count_none p [] h = refl
count_none p (x ∷ xs) h = let k = or_parts (p x) (list_any p xs) h in count_more p x xs ∙ (λ i. cond (k.0 i) 1 0 + count_none p xs k.1 i)

-- what passes at most once is counted at most once
pub count_once : {X : Type 0} (p : X → Bool) (xs : List X) → AtMostOnce p xs → count_by p xs ≤ 1
count_once p [] a = omega arith
count_once p (x ∷ xs) a = by (p x) refl (count_once p xs a.1)
  where
    by : (b : Bool) → p x ≡ b → count_by p xs ≤ 1 → count_by p (x ∷ xs) ≤ 1
    by true e rest = let s : count_by p (x ∷ xs) ≡ 1 + 0 = count_more p x xs ∙ (λ i. cond (e i) 1 0 + count_none p xs (a.0 e) i) in omega (arith, s)
    by false e rest = let s : count_by p (x ∷ xs) ≡ 0 + count_by p xs = count_more p x xs ∙ ap (λ b. cond b 1 0 + count_by p xs) e in omega (arith, s, rest)

-- what passes one of two tests is counted by them
pub count_both : {X : Type 0} (p a b : X → Bool) → ((x : X) → p x ≡ true → (a x || b x) ≡ true) → (xs : List X) → count_by p xs ≤ count_by a xs + count_by b xs
count_both p a b split [] = omega arith
count_both p a b split (x ∷ xs) =
    let rest = count_both p a b split xs in
    let here = one (p x) (a x) (b x) (split x) in
    let e = count_more p x xs in
    let f = count_more a x xs in
    let g = count_more b x xs in
    omega (arith, rest, here, e, f, g)
  where
    one : (u v w : Bool) → (u ≡ true → (v || w) ≡ true) → cond u 1 0 ≤ cond v 1 0 + cond w 1 0
    one true true w h = omega arith
    one true false true h = omega arith
    one true false false h = absurd (let z : false ≡ true = h refl in cc)
    one false v w h = omega arith
