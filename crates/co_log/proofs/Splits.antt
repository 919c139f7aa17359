-- Two ways to part one list at an element.
use Rattle.std.proofs.Common.{◌≡◌, ◌⊎◌, inl, inr, List, [], ◌∷◌, ◌++◌, refl, sym, ap, ◌∙◌}

-- the second part is longer: it goes on behind the first one with its element
pub record PartsLater {A : Type 0} (before : List A) (x : A) (other : List A) : Type 0 where
  pub more : List A
  pub is : other ≡ before ++ x ∷ more

-- the parts are the same
pub record PartsAlike {A : Type 0} (before other : List A) (x y : A) : Type 0 where
  pub fronts : before ≡ other
  pub elements : x ≡ y

pub parted : {A : Type 0} (before other : List A) (x y : A) (behind after : List A) → before ++ x ∷ behind ≡ other ++ y ∷ after → PartsAlike before other x y ⊎ (PartsLater before x other ⊎ PartsLater other y before)
parted [] [] x y behind after e = inl record { fronts = refl; elements = let h : x ≡ y = cc in h }
parted [] (z ∷ other) x y behind after e = inr (inl record { more = other; is = ap (λ z'. z' ∷ other) (let h : z ≡ x = cc in h) })
parted (z ∷ before) [] x y behind after e = inr (inr record { more = before; is = ap (λ z'. z' ∷ before) (let h : z ≡ y = cc in h) })
parted (z ∷ before) (w ∷ other) x y behind after e =
    let same : z ≡ w = cc in
    elim (parted before other x y behind after (let h : before ++ x ∷ behind ≡ other ++ y ∷ after = cc in h)) [
      | inl a ↦ inl record { fronts = ap (λ v. v ∷ before) same ∙ ap (λ vs. w ∷ vs) a.fronts; elements = a.elements }
      | inr l ↦ inr (elim l [
        | inl b ↦ inl record { more = b.more; is = ap (λ v. v ∷ other) (sym same) ∙ ap (λ vs. z ∷ vs) b.is }
        | inr c ↦ inr record { more = c.more; is = ap (λ v. v ∷ before) same ∙ ap (λ vs. w ∷ vs) c.is }
      ])
    ]
