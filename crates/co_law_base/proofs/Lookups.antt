-- Tables by transaction number, entry by entry.
use Rattle.std.proofs.Common.{◌≡◌, ◌≢◌, ◌⊎◌, inl, inr, ℕ, Bool, true, false, cond, ◌==◌, Option, None, Some, refl, sym, ap, ◌∙◌, arith}
use Rattle.std.proofs.lemmas.Bool.Decides.{nat_tests}
use Rattle.std.proofs.lemmas.Bool.{eqb-true, eqb-false}
use Rattle.std.specs.Option.{is_some}
use Rattle.std.specs.Ordering.{nat_cmp, eq_by_cmp}
use Rattle.co_state.specs.Table.{Table, look, put, without, holds, no_entries}
use Rattle.co_state.proofs.Tables.{look-put, look-without}
use Rattle.std.specs.FinMap.{get-empty}
use Rattle.co_law_engine.proofs.YesTells.{in_some}

pub same_number : (u t : ℕ) → eq_by_cmp nat_cmp u t ≡ true → u ≡ t
same_number u t h = grind (arith, nat_tests, h)

pub other_number : (u t : ℕ) → t ≢ u → eq_by_cmp nat_cmp u t ≡ false
other_number u t h = grind (arith, nat_tests, h)

pub own_number : (t : ℕ) → eq_by_cmp nat_cmp t t ≡ true
own_number t = grind (arith, nat_tests)

pub apart_by : (b : Bool) {A : Type 0} → b ≡ true → b ≡ false → A
apart_by b e f = absurd (let q : true ≡ false = sym e ∙ f in cc)

pub is_nothing : {A X : Type 0} {x : X} → None ≡ Some x → A
is_nothing {x = x} h = absurd (let q : None ≡ Some x = h in cc)

module _ {X : Type 0} where
  pub look_none : (u : ℕ) → look (no_entries {X = X}) u ≡ None
  look_none u = get-empty nat_cmp u

  pub put_here : (m : Table X) (t : ℕ) (x : X) → look (put m t x) t ≡ Some x
  put_here m t x = look-put m t x t ∙ ap (λ b. cond b (Some x) (look m t)) (own_number t)

  pub put_there : (m : Table X) (t : ℕ) (x : X) (u : ℕ) → t ≢ u → look (put m t x) u ≡ look m u
  put_there m t x u n = look-put m t x u ∙ ap (λ b. cond b (Some x) (look m u)) (other_number u t n)

  pub without_here : (m : Table X) (t : ℕ) → look (without m t) t ≡ None
  without_here m t = look-without m t t ∙ ap (λ b. cond b None (look m t)) (own_number t)

  pub without_there : (m : Table X) (t u : ℕ) → t ≢ u → look (without m t) u ≡ look m u
  without_there m t u n = look-without m t u ∙ ap (λ b. cond b None (look m u)) (other_number u t n)

  -- what stands after one entry was laid in
  pub put_cases : (m : Table X) (t : ℕ) (x : X) (u : ℕ) (y : X) → look (put m t x) u ≡ Some y → ((t ≡ u) × (x ≡ y)) ⊎ ((t ≢ u) × (look m u ≡ Some y))
  put_cases m t x u y h = by (t == u) refl
    where
      by : (b : Bool) → (t == u) ≡ b → ((t ≡ u) × (x ≡ y)) ⊎ ((t ≢ u) × (look m u ≡ Some y))
      by true e =
          let same : t ≡ u = eqb-true t u e in
          inl (same, in_some (sym (put_here m t x) ∙ ap (look (put m t x)) same ∙ h))
      by false e = inr (eqb-false t u e, sym (put_there m t x u (eqb-false t u e)) ∙ h)

  -- what stands after one was taken out
  pub without_cases : (m : Table X) (t u : ℕ) (y : X) → look (without m t) u ≡ Some y → (t ≢ u) × (look m u ≡ Some y)
  without_cases m t u y h = by (t == u) refl
    where
      by : (b : Bool) → (t == u) ≡ b → (t ≢ u) × (look m u ≡ Some y)
      by true e =
          let same : t ≡ u = eqb-true t u e in
          is_nothing (sym (without_here m t) ∙ ap (look (without m t)) same ∙ h)
      by false e = (eqb-false t u e, sym (without_there m t u (eqb-false t u e)) ∙ h)

  pub holds_found : (m : Table X) (u : ℕ) → holds m u ≡ true → (x : X) × (look m u ≡ Some x)
  holds_found m u h = by (look m u) refl h
    where
      by : (o : Option X) → look m u ≡ o → is_some o ≡ true → (x : X) × (look m u ≡ Some x)
      by None e k = absurd (let q : false ≡ true = k in cc)
      by (Some x) e k = (x, e)

  pub found_holds : (m : Table X) (u : ℕ) (x : X) → look m u ≡ Some x → holds m u ≡ true
  found_holds m u x e = ap is_some e
