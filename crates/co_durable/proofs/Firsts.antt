-- Two lists with a first bad element, and elements that are related to one only.
use Rattle.std.proofs.Common.{◌≡◌, inl, inr, List, [], ◌∷◌, ◌++◌, refl, sym, ap, subst, ◌∙◌}
use Rattle.std.specs.List.{AllByRecursion}
use Rattle.co_log.proofs.Splits.{parted}
use Rattle.co_durable.specs.Pairs.{EachPair, FirstWhere}

pub all_front : {A : Type 0} (P : A → Type 0) (xs ys : List A) → AllByRecursion P (xs ++ ys) → AllByRecursion P xs
all_front P [] ys all = tt
all_front P (x ∷ xs) ys all = (all.0, all_front P xs ys all.1)

pub all_back : {A : Type 0} (P : A → Type 0) (xs ys : List A) → AllByRecursion P (xs ++ ys) → AllByRecursion P ys
all_back P [] ys all = all
all_back P (x ∷ xs) ys all = all_back P xs ys all.1

all_between : {A : Type 0} (P : A → Type 0) (before : List A) (x : A) (behind xs : List A) → xs ≡ before ++ x ∷ behind → AllByRecursion P xs → P x
all_between P before x behind xs split all = (all_back P before (x ∷ behind) (subst (AllByRecursion P) split all)).0

-- an element that is bad in both ways
pub record BothBad {A : Type 0} (P IsBad IsWrong : A → Type 0) : Type 0 where
  pub here : A
  pub holds : P here
  pub bad : IsBad here
  pub wrong : IsWrong here

-- Two searches in one list, where what is good for the one is not bad for the other, end at one element.
pub both_first : {A : Type 0} (P IsGood IsBad IsRight IsWrong : A → Type 0) (xs : List A) → ((x : A) → P x → IsGood x → IsWrong x → ⊥) → ((x : A) → P x → IsRight x → IsBad x → ⊥) → AllByRecursion P xs
    → FirstWhere IsGood IsBad xs → FirstWhere IsRight IsWrong xs → BothBad P IsBad IsWrong
both_first P IsGood IsBad IsRight IsWrong xs good_not_wrong right_not_bad all one two =
    let at_one : P one.first = all_between P one.before one.first one.behind xs one.split all in
    let at_two : P two.first = all_between P two.before two.first two.behind xs two.split all in
    elim (parted one.before two.before one.first two.first one.behind two.behind (sym one.split ∙ two.split)) [
      | inl alike ↦ record { here = two.first; holds = at_two; bad = subst IsBad alike.elements one.bad; wrong = two.bad }
      | inr l ↦ elim l [
        | inl later ↦ absurd (right_not_bad one.first at_one (all_between IsRight one.before one.first later.more two.before later.is two.good) one.bad)
        | inr later ↦ absurd (good_not_wrong two.first at_two (all_between IsGood two.before two.first later.more one.before later.is one.good) two.bad)
      ]
    ]

-- where all are good, none is the first bad one
pub all_good : {A : Type 0} (P IsGood IsRight IsWrong : A → Type 0) (xs : List A) → ((x : A) → P x → IsGood x → IsWrong x → ⊥) → AllByRecursion P xs → AllByRecursion IsGood xs → FirstWhere IsRight IsWrong xs → ⊥
all_good P IsGood IsRight IsWrong xs apart all good first =
    apart first.first (all_between P first.before first.first first.behind xs first.split all) (all_between IsGood first.before first.first first.behind xs first.split good) first.bad

-- lists that go together with one list, where each element goes together with one alone
pub pairs_once : {A B : Type 0} (P : A → Type 0) (related : A → B → Type 0) → ((x : A) (y z : B) → P x → related x y → related x z → y ≡ z) → (xs : List A) (ys zs : List B) → AllByRecursion P xs → EachPair related xs ys → EachPair related xs zs → ys ≡ zs
pairs_once P related once [] [] [] all p q = refl
pairs_once P related once [] [] (z ∷ zs) all p q = absurd q
pairs_once P related once [] (y ∷ ys) zs all p q = absurd p
pairs_once P related once (x ∷ xs) [] zs all p q = absurd p
pairs_once P related once (x ∷ xs) (y ∷ ys) [] all p q = absurd q
pairs_once P related once (x ∷ xs) (y ∷ ys) (z ∷ zs) all p q =
    ap (λ w. w ∷ ys) (once x y z all.0 p.0 q.0) ∙ ap (λ ws. z ∷ ws) (pairs_once P related once xs ys zs all.1 p.1 q.1)
