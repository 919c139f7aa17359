-- What holds of a list with one more element at its end holds of the list, and of that element.
use Rattle.std.proofs.Common.{◌≡◌, ℕ, ◌<◌, ◌⊎◌, inl, inr, List, [], ◌∷◌, ◌++◌, length, get_or, sym, ◌∙◌, subst, length-append, arith}
use Rattle.std.specs.Prelude.{All, AllPairs, Any, Contains}
use Rattle.std.proofs.lemmas.List.{get_or_append_left}
use Rattle.std.proofs.Math.Seq.{get_or-append_seam}
use Rattle.std.proofs.lemmas.List.Elements.{Contains-push_cases}

module _ {X : Type 0} (xs : List X) (y : X) where
  in_front : (k : ℕ) → k < length xs → k < length (xs ++ y ∷ [])
  in_front k lt = omega (arith, length-append xs (y ∷ []))

  at_end : length xs < length (xs ++ y ∷ [])
  at_end = omega (arith, length-append xs (y ∷ []))

  pub front_all : (P : X → Type 0) → All P (xs ++ y ∷ []) → All P xs
  front_all P all k d lt = subst P (get_or_append_left xs (y ∷ []) d k lt) (all k d (in_front k lt))

  pub last_all : (P : X → Type 0) → All P (xs ++ y ∷ []) → P y
  last_all P all = subst P (get_or-append_seam xs y [] y) (all (length xs) y at_end)

  pub front_pairs : (R : X → X → Type 0) → AllPairs R (xs ++ y ∷ []) → AllPairs R xs
  front_pairs R all i j d lt in_range =
      subst (λ x. R x (get_or xs j d)) (get_or_append_left xs (y ∷ []) d i (omega arith))
      (subst (R (get_or (xs ++ y ∷ []) i d)) (get_or_append_left xs (y ∷ []) d j in_range) (all i j d lt (in_front j in_range)))

  pub last_pairs : (R : X → X → Type 0) → AllPairs R (xs ++ y ∷ []) → All (λ x. R x y) xs
  last_pairs R all k d lt =
      subst (λ x. R x y) (get_or_append_left xs (y ∷ []) d k lt)
      (subst (R (get_or (xs ++ y ∷ []) k d)) (get_or-append_seam xs y [] d) (all k (length xs) d lt at_end))

  pub any_cases : (P : X → Type 0) → Any P (xs ++ y ∷ []) → Any P xs ⊎ P y
  any_cases P any = by (Contains-push_cases xs y any.1 (any.0, any.2, any.3))
    where
      by : Contains xs any.1 ⊎ (y ≡ any.1) → Any P xs ⊎ P y
      by (inl c) = inl (c.0, any.1, c.1, c.2, any.4)
      by (inr same) = inr (subst P (sym same) any.4)

  pub any_front : (P : X → Type 0) → Any P xs → Any P (xs ++ y ∷ [])
  any_front P any = (any.0, any.1, in_front any.0 any.2, get_or_append_left xs (y ∷ []) any.1 any.0 any.2 ∙ any.3, any.4)
