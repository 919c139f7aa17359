-- Facts of the elements of a list by their places, counted on from a number.
use Rattle.std.specs.Prelude.{ℕ, suc, List, [], ◌∷◌}

-- each element is so at its place, the first of them at this one
abbrev pub AllFrom : {A : Type 0} → (ℕ → A → Type 0) → ℕ → List A → Type 0
AllFrom P p [] = Unit {0}
AllFrom P p (x ∷ xs) = P p x × AllFrom P (suc p) xs

-- the lists have one length, and the two elements at each place are so there
abbrev pub BothFrom : {A B : Type 0} → (ℕ → A → B → Type 0) → ℕ → List A → List B → Type 0
BothFrom R p [] [] = Unit {0}
BothFrom R p [] (y ∷ ys) = ⊥
BothFrom R p (x ∷ xs) [] = ⊥
BothFrom R p (x ∷ xs) (y ∷ ys) = R p x y × BothFrom R (suc p) xs ys
