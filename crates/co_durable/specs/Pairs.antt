-- Two lists that go together, and the first of a list that fails a test.
use Rattle.std.specs.Prelude.{◌≡◌, List, [], ◌∷◌, ◌++◌}
use Rattle.std.specs.List.{AllByRecursion}

-- the lists have one length, and each element of the one is related to the element at its place in the other
abbrev pub EachPair : {A B : Type 0} → (A → B → Type 0) → List A → List B → Type 0
EachPair related [] [] = Unit {0}
EachPair related [] (y ∷ ys) = ⊥
EachPair related (x ∷ xs) [] = ⊥
EachPair related (x ∷ xs) (y ∷ ys) = related x y × EachPair related xs ys

-- some element is bad, and each one before it is good
pub record FirstWhere {A : Type 0} (IsGood IsBad : A → Type 0) (list : List A) : Type 0 where
  pub before : List A
  pub first : A
  pub behind : List A
  pub split : list ≡ before ++ first ∷ behind
  pub good : AllByRecursion IsGood before
  pub bad : IsBad first
