-- Lists that go together, as loops make them.
use Rattle.std.proofs.Common.{◌≡◌, ℕ, suc, ◌+◌, ◌<◌, List, [], ◌∷◌, ◌++◌, take, drop, length, get_or, sym, ap, subst, ◌∙◌, append_assoc, drop-cons, zero, refl, arith}
use Rattle.std.specs.List.{AllByRecursion}
use Rattle.std.proofs.lemmas.List.{take-append-drop, take_more}
use Rattle.co_durable.specs.Pairs.{EachPair, FirstWhere}

pub pairs_push : {A B : Type 0} (related : A → B → Type 0) (xs : List A) (ys : List B) (x : A) (y : B) → EachPair related xs ys → related x y → EachPair related (xs ++ x ∷ []) (ys ++ y ∷ [])
pairs_push related [] [] x y p r = (r, tt)
pairs_push related [] (z ∷ ys) x y p r = absurd p
pairs_push related (w ∷ xs) [] x y p r = absurd p
pairs_push related (w ∷ xs) (z ∷ ys) x y p r = (p.0, pairs_push related xs ys x y p.1 r)

-- one pair more, at the next place of the first list
pub pair_more : {A B : Type 0} (related : A → B → Type 0) (xs : List A) (ys : List B) (i : ℕ) (x d : A) (y : B) → i < length xs → x ≡ get_or xs i d → EachPair related (take i xs) ys → related x y
    → EachPair related (take (i + 1) xs) (ys ++ y ∷ [])
pair_more related xs ys i x d y h is p r =
    subst (λ front. EachPair related front (ys ++ y ∷ [])) (sym (take_more xs i d h ∙ ap (λ z. take i xs ++ z ∷ []) (sym is))) (pairs_push related (take i xs) ys x y p r)

pub left_all : {A B : Type 0} (related : A → B → Type 0) (P : A → Type 0) → ((x : A) (y : B) → related x y → P x) → (xs : List A) (ys : List B) → EachPair related xs ys → AllByRecursion P xs
left_all related P f [] ys p = tt
left_all related P f (x ∷ xs) [] p = absurd p
left_all related P f (x ∷ xs) (y ∷ ys) p = (f x y p.0, left_all related P f xs ys p.1)

pub right_all : {A B : Type 0} (related : A → B → Type 0) (P : B → Type 0) → ((x : A) (y : B) → related x y → P y) → (xs : List A) (ys : List B) → EachPair related xs ys → AllByRecursion P ys
right_all related P f [] [] p = tt
right_all related P f [] (y ∷ ys) p = absurd p
right_all related P f (x ∷ xs) [] p = absurd p
right_all related P f (x ∷ xs) (y ∷ ys) p = (f x y p.0, right_all related P f xs ys p.1)

pub all_at : {A : Type 0} (P : A → Type 0) (xs : List A) (i : ℕ) (d : A) → i < length xs → AllByRecursion P xs → P (get_or xs i d)
all_at P [] i d h all = absurd (omega (arith, h))
all_at P (x ∷ xs) zero d h all = all.0
all_at P (x ∷ xs) (suc i) d h all = all_at P xs i d (omega (arith, h)) all.1

-- the first bad one stands behind good ones
pub first_at : {A : Type 0} (IsGood IsBad : A → Type 0) (xs : List A) (i : ℕ) (x d : A) → i < length xs → x ≡ get_or xs i d → AllByRecursion IsGood (take i xs) → IsBad x → FirstWhere IsGood IsBad xs
first_at IsGood IsBad xs i x d h is good bad = record {
  before = take i xs;
  first = x;
  behind = drop (suc i) xs;
  split = sym (take-append-drop i xs) ∙ ap (λ t. take i xs ++ t) (drop-cons xs i d h ∙ ap (λ z. z ∷ drop (suc i) xs) (sym is));
  good = good;
  bad = bad;
}

pub all_append : {A : Type 0} (P : A → Type 0) (xs ys : List A) → AllByRecursion P xs → AllByRecursion P ys → AllByRecursion P (xs ++ ys)
all_append P [] ys a b = b
all_append P (x ∷ xs) ys a b = (a.0, all_append P xs ys a.1 b)

pub all_map : {A : Type 0} (P Q : A → Type 0) → ((x : A) → P x → Q x) → (xs : List A) → AllByRecursion P xs → AllByRecursion Q xs
all_map P Q f [] a = tt
all_map P Q f (x ∷ xs) a = (f x a.0, all_map P Q f xs a.1)

-- the first bad one of two lists, in the first, or in the second where all of the first are good
pub first_left : {A : Type 0} (IsGood IsBad : A → Type 0) (xs ys : List A) → FirstWhere IsGood IsBad xs → FirstWhere IsGood IsBad (xs ++ ys)
first_left IsGood IsBad xs ys f = record {
  before = f.before;
  first = f.first;
  behind = f.behind ++ ys;
  split = ap (λ t. t ++ ys) f.split ∙ append_assoc f.before (f.first ∷ f.behind) ys;
  good = f.good;
  bad = f.bad;
}

pub first_right : {A : Type 0} (IsGood IsBad : A → Type 0) (xs ys : List A) → AllByRecursion IsGood xs → FirstWhere IsGood IsBad ys → FirstWhere IsGood IsBad (xs ++ ys)
first_right IsGood IsBad xs ys all f = record {
  before = xs ++ f.before;
  first = f.first;
  behind = f.behind;
  split = ap (λ t. xs ++ t) f.split ∙ sym (append_assoc xs f.before (f.first ∷ f.behind));
  good = all_append IsGood xs f.before all f.good;
  bad = f.bad;
}

pub first_map : {A : Type 0} (P Q R S : A → Type 0) → ((x : A) → P x → Q x) → ((x : A) → R x → S x) → (xs : List A) → FirstWhere P R xs → FirstWhere Q S xs
first_map P Q R S f g xs w = record {
  before = w.before;
  first = w.first;
  behind = w.behind;
  split = w.split;
  good = all_map P Q f w.before w.good;
  bad = g w.first w.bad;
}

-- where the second list is cut, so is the first
record Cut {A B : Type 0} (related : A → B → Type 0) (xs : List A) (before : List B) (y : B) : Type 0 where
  pub front : List A
  pub here : A
  pub back : List A
  pub is : xs ≡ front ++ here ∷ back
  pub pairs : EachPair related front before
  pub holds : related here y

cut : {A B : Type 0} (related : A → B → Type 0) (xs : List A) (before : List B) (y : B) (behind : List B) → EachPair related xs (before ++ y ∷ behind) → Cut related xs before y
cut related [] [] y behind p = absurd p
cut related (x ∷ xs) [] y behind p = record { front = []; here = x; back = xs; is = refl; pairs = tt; holds = p.0 }
cut related [] (z ∷ before) y behind p = absurd p
cut related (x ∷ xs) (z ∷ before) y behind p =
    let c = cut related xs before y behind p.1 in
    record { front = x ∷ c.front; here = c.here; back = c.back; is = ap (λ t. x ∷ t) c.is; pairs = (p.0, c.pairs); holds = c.holds }

pub all_over : {A B : Type 0} (related : A → B → Type 0) (P : B → Type 0) (Q : A → Type 0) → ((x : A) (y : B) → related x y → P y → Q x) → (xs : List A) (ys : List B) → EachPair related xs ys → AllByRecursion P ys → AllByRecursion Q xs
all_over related P Q f [] ys p a = tt
all_over related P Q f (x ∷ xs) [] p a = absurd p
all_over related P Q f (x ∷ xs) (y ∷ ys) p a = (f x y p.0 a.0, all_over related P Q f xs ys p.1 a.1)

-- the first bad one of the second list tells the first bad one of the first
pub first_over : {A B : Type 0} (related : A → B → Type 0) (P Q : B → Type 0) (R S : A → Type 0) → ((x : A) (y : B) → related x y → P y → R x) → ((x : A) (y : B) → related x y → Q y → S x)
    → (xs : List A) (ys : List B) → EachPair related xs ys → FirstWhere P Q ys → FirstWhere R S xs
first_over related P Q R S good bad xs ys p f =
    let c = cut related xs f.before f.first f.behind (subst (EachPair related xs) f.split p) in
    record {
      before = c.front;
      first = c.here;
      behind = c.back;
      split = c.is;
      good = all_over related P R good c.front f.before c.pairs f.good;
      bad = bad c.here f.first c.holds f.bad;
    }

pub pairs_length : {A B : Type 0} (related : A → B → Type 0) (xs : List A) (ys : List B) → EachPair related xs ys → length ys ≡ length xs
pairs_length related [] [] p = refl
pairs_length related [] (y ∷ ys) p = absurd p
pairs_length related (x ∷ xs) [] p = absurd p
pairs_length related (x ∷ xs) (y ∷ ys) p = ap suc (pairs_length related xs ys p.1)
