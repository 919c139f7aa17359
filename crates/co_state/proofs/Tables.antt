-- Tables by transaction number, through `look`, `put` and `without`, and the test of numbers that they use.
use Rattle.std.proofs.Common.{◌≡◌, ℕ, ◌<◌, Bool, true, false, cond, Option, None, Some, Result, Ok, Err, OnOk, ◌⊎◌, inl, inr, nat_eq, refl, sym, ap, ◌∙◌, arith}
use Rattle.std.specs.FinMap.{get-insert, get-remove, same_map, nat_cmp-IsAntisymmetric}
use Rattle.std.specs.Ordering.{nat_cmp, eq_by_cmp, is_eq}
use Rattle.std.specs.Cmp.{nat_cmp_is, nat_cmp_total}
use Rattle.std.specs.declared.cmp.Ordering.TheVariants.{Less, Equal, Greater}
use Rattle.std.proofs.lemmas.Bool.{cases_order, eq-eqb}
use Rattle.std.proofs.lemmas.Bool.Decides.{nat_tests}
use Rattle.co_state.specs.Table.{Table, look, put, without}

pub apart_below : (q k : ℕ) → q < k → false ≡ nat_eq q k
apart_below q k l = grind (arith, nat_tests)

pub apart_above : (q k : ℕ) → k < q → false ≡ nat_eq q k
apart_above q k l = grind (arith, nat_tests)

-- two numbers are the same by their order where they are equal
pub same_test : (q k : ℕ) → eq_by_cmp nat_cmp q k ≡ nat_eq q k
same_test q k = by (cases_order q k)
  where
    by : (q ≡ k) ⊎ ((q < k) ⊎ (k < q)) → eq_by_cmp nat_cmp q k ≡ nat_eq q k
    by (inl e) = ap is_eq (sym (nat_cmp_is q k Equal e)) ∙ sym (eq-eqb q k e)
    by (inr (inl l)) = ap is_eq (sym (nat_cmp_is q k Less l)) ∙ apart_below q k l
    by (inr (inr g)) = ap is_eq (sym (nat_cmp_is q k Greater g)) ∙ apart_above q k g

pub swap_test : (q k : ℕ) → nat_eq q k ≡ nat_eq k q
swap_test q k = grind (arith, nat_tests)

module _ {X : Type 0} where
  pub look-put : (m : Table X) (t : ℕ) (x : X) (u : ℕ) → look (put m t x) u ≡ cond (eq_by_cmp nat_cmp u t) (Some x) (look m u)
  look-put m t x u = get-insert nat_cmp_total m t x u

  pub look-without : (m : Table X) (t u : ℕ) → look (without m t) u ≡ cond (eq_by_cmp nat_cmp u t) None (look m u)
  look-without m t u = get-remove nat_cmp_total m t u

  pub same_table : (m n : Table X) → ((u : ℕ) → look m u ≡ look n u) → m ≡ n
  same_table = same_map nat_cmp_total nat_cmp-IsAntisymmetric

  cond-cond : (b : Bool) (x y z : Option X) → cond b x (cond b y z) ≡ cond b x z
  cond-cond true x y z = refl
  cond-cond false x y z = refl

  -- an entry that is taken out and laid in again
  pub put-without : (m : Table X) (t : ℕ) (x : X) → put (without m t) t x ≡ put m t x
  put-without m t x = same_table _ _ (λ u.
      look-put (without m t) t x u ∙ ap (cond (eq_by_cmp nat_cmp u t) (Some x)) (look-without m t u)
      ∙ cond-cond (eq_by_cmp nat_cmp u t) (Some x) None (look m u) ∙ sym (look-put m t x u))

pub on_ok : {X E : Type 0} (r : Result X E) {A B : Type 0} → (A → B) → OnOk r A → OnOk r B
on_ok (Ok x) f h = f h
on_ok (Err e) f h = tt
