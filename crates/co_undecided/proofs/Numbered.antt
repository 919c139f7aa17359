-- Tables at one number, and at others.
use Rattle.std.proofs.Common.{◌≡◌, ◌≢◌, ℕ, Bool, true, false, ◌==◌, cond, None, Some, refl, sym, ap, subst, ◌∙◌, arith}
use Rattle.std.proofs.lemmas.Bool.Decides.{nat_tests}
use Rattle.co_state.specs.Table.{Table, look, put, without}
use Rattle.co_state.proofs.Tables.{look-put, look-without, same_test}

module _ {X : Type 0} (table : Table X) (t : ℕ) where
  pub here : (x : X) → look (put table t x) t ≡ Some x
  here x = look-put table t x t ∙ ap (λ c. cond c (Some x) (look table t)) (same_test t t ∙ itself)
    where
      itself : (t == t) ≡ true
      itself = grind (arith, nat_tests)

  pub there : (x : X) (u : ℕ) → u ≢ t → look (put table t x) u ≡ look table u
  there x u n = look-put table t x u ∙ ap (λ c. cond c (Some x) (look table u)) (same_test u t ∙ apart)
    where
      apart : (u == t) ≡ false
      apart = grind (arith, nat_tests)

  pub gone : look (without table t) t ≡ None
  gone = look-without table t t ∙ ap (λ c. cond c None (look table t)) (same_test t t ∙ itself)
    where
      itself : (t == t) ≡ true
      itself = grind (arith, nat_tests)

  pub left : (u : ℕ) → u ≢ t → look (without table t) u ≡ look table u
  left u n = look-without table t u ∙ ap (λ c. cond c None (look table u)) (same_test u t ∙ apart)
    where
      apart : (u == t) ≡ false
      apart = grind (arith, nat_tests)

-- a number is this one or another one
pub by_number : (P : ℕ → Type 0) (t u : ℕ) → P t → (u ≢ t → P u) → P u
by_number P t u p q = by (u == t) refl
  where
    by : (c : Bool) → (u == t) ≡ c → P u
    by true e = let same : u ≡ t = grind (arith, nat_tests, e) in subst P (sym same) p
    by false e = q (λ (same : u ≡ t). grind (arith, nat_tests, e, same))
