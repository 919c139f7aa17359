-- No transaction is active and voted at once, and marks are on active ones: so it stays.
use Rattle.std.proofs.Common.{◌≡◌, ℕ, true, false, List, Option, None, Some, is_some, refl, sym, ap, ◌∙◌}
use Rattle.co_state.specs.declared.engine_state.Operation.{Operation}
use Rattle.co_state.specs.declared.engine_state.Vote.{Vote}
use Rattle.co_state.specs.Table.{Table, look, put, without, holds}
use Rattle.co_plain.specs.declared.member_state.AskedMark.{AskedMark}
use Rattle.co_undecided.proofs.Numbered.{here, there, gone, left, by_number}

pub not_held : {X : Type 0} (o : Option X) → is_some o ≡ false → o ≡ None
not_held None e = refl
not_held (Some x) e = absurd (let z : true ≡ false = e in cc)

pub held : {X : Type 0} (o : Option X) → is_some o ≡ true → (x : X) × (o ≡ Some x)
held None h = absurd (let z : false ≡ true = h in cc)
held (Some x) h = (x, refl)

module _ (active : Table (List Operation)) (voted : Table Vote) (asked : Table AskedMark)
    (apart : (u : ℕ) → holds voted u ≡ true → look active u ≡ None) (marks : (u : ℕ) → look active u ≡ None → look asked u ≡ None) (t : ℕ) where
  pub operated_apart : (os : List Operation) → look voted t ≡ None → (u : ℕ) → holds voted u ≡ true → look (put active t os) u ≡ None
  operated_apart os unvoted u = by_number (λ u. holds voted u ≡ true → look (put active t os) u ≡ None) t u
      (λ h. absurd (let z : false ≡ true = sym (ap is_some unvoted) ∙ h in cc)) (λ n h. there active t os u n ∙ apart u h)

  pub operated_marks : (os : List Operation) → (u : ℕ) → look (put active t os) u ≡ None → look asked u ≡ None
  operated_marks os u = by_number (λ u. look (put active t os) u ≡ None → look asked u ≡ None) t u
      (λ h. absurd (let z : Some os ≡ None = sym (here active t os) ∙ h in cc)) (λ n h. marks u (sym (there active t os u n) ∙ h))

  pub marked_marks : (os : List Operation) (mark : AskedMark) → look active t ≡ Some os → (u : ℕ) → look active u ≡ None → look (put asked t mark) u ≡ None
  marked_marks os mark is u = by_number (λ u. look active u ≡ None → look (put asked t mark) u ≡ None) t u
      (λ h. absurd (let z : Some os ≡ None = sym is ∙ h in cc)) (λ n h. there asked t mark u n ∙ marks u h)

  pub voted_apart : (vote : Vote) → (u : ℕ) → holds (put voted t vote) u ≡ true → look (without active t) u ≡ None
  voted_apart vote u = by_number (λ u. holds (put voted t vote) u ≡ true → look (without active t) u ≡ None) t u
      (λ h. gone active t) (λ n h. left active t u n ∙ apart u (sym (ap is_some (there voted t vote u n)) ∙ h))

  pub left_marks : (u : ℕ) → look (without active t) u ≡ None → look (without asked t) u ≡ None
  left_marks u = by_number (λ u. look (without active t) u ≡ None → look (without asked t) u ≡ None) t u
      (λ h. gone asked t) (λ n h. left asked t u n ∙ marks u (sym (left active t u n) ∙ h))

  pub left_apart : (u : ℕ) → holds (without voted t) u ≡ true → look (without active t) u ≡ None
  left_apart u = by_number (λ u. holds (without voted t) u ≡ true → look (without active t) u ≡ None) t u
      (λ h. gone active t) (λ n h. left active t u n ∙ apart u (sym (ap is_some (left voted t u n)) ∙ h))

  pub installed_apart : (u : ℕ) → holds (without voted t) u ≡ true → look active u ≡ None
  installed_apart u = by_number (λ u. holds (without voted t) u ≡ true → look active u ≡ None) t u
      (λ h. absurd (let z : false ≡ true = sym (ap is_some (gone voted t)) ∙ h in cc)) (λ n h. apart u (sym (ap is_some (left voted t u n)) ∙ h))
