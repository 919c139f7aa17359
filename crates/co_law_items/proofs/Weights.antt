-- How many records wait at all nodes.
use Rattle.std.proofs.Common.{◌≡◌, ◌≢◌, ℕ, zero, suc, Bool, true, false, ◌+◌, ◌≤◌, ◌==◌, if◌then◌else◌, length, refl, sym, ap, ◌∙◌, arith}
use Rattle.std.proofs.lemmas.Bool.{eqb-true, eqb-false}
use Rattle.co_schedule.specs.View.{IsWithin}
use Rattle.co_serial.specs.SerialRun.{with_at}
use Rattle.co_plain.specs.Federation.{Federation}
use Rattle.co_plain.specs.declared.coord_state.CoordState.{CoordState}
use Rattle.co_plain.specs.declared.member_state.MemberState.{MemberState}
use Rattle.co_law_base.proofs.Carrying.{at_here}

-- the sum of the first so many, from 1 on
pub sum_to : ℕ → (ℕ → ℕ) → ℕ
sum_to zero f = 0
sum_to (suc n) f = f (suc n) + sum_to n f

pub sum_none : (n : ℕ) (f : ℕ → ℕ) → ((i : ℕ) → f i ≡ 0) → sum_to n f ≡ 0
unfolding sum_to
sum_none zero f h = refl
sum_none (suc n) f h = let a = h (suc n) in let b = sum_none n f h in omega (arith, a, b)

module _ {X : Type 0} (w : X → ℕ) (f : ℕ → X) (m : ℕ) (x : X) where
  abbrev new : ℕ → ℕ
  new i = w (with_at f m x i)

  abbrev old : ℕ → ℕ
  old i = w (f i)

  here : new m ≡ w x
  here = ap w (at_here f m x)

  there : (i : ℕ) → m ≢ i → new i ≡ old i
  there i n = by (m == i) refl
    where
      by : (b : Bool) → (m == i) ≡ b → w (if m == i then x else f i) ≡ w (f i)
      by true e = absurd (n (eqb-true m i e))
      by false e = ap (λ b. w (if b then x else f i)) e

  -- places below it are the old ones
  sum_below : (n : ℕ) → suc n ≤ m → sum_to n new ≡ sum_to n old
  unfolding sum_to
  sum_below zero l = refl
  sum_below (suc n) l =
      let a = there (suc n) (λ e. absurd (omega (arith, l, e))) in
      let b = sum_below n (omega (arith, l)) in omega (arith, a, b)

  -- one place is changed
  pub sum_changed : (n : ℕ) → IsWithin 1 n m → sum_to n new + old m ≡ sum_to n old + w x
  unfolding sum_to
  sum_changed zero l = let a = l.0 in let b = l.1 in absurd (omega (arith, a, b))
  sum_changed (suc n) l = by (sum_changed n) (m == suc n) refl
    where
      by : (IsWithin 1 n m → sum_to n new + old m ≡ sum_to n old + w x) → (b : Bool) → (m == suc n) ≡ b → (new (suc n) + sum_to n new) + old m ≡ (old (suc n) + sum_to n old) + w x
      by rest true e =
          let same : m ≡ suc n = eqb-true m (suc n) e in
          let below = sum_below n (omega (arith, same)) in
          let a : new (suc n) ≡ w x = ap new (sym same) ∙ here in
          let b : old (suc n) ≡ old m = ap old (sym same) in
          omega (arith, below, a, b)
      by rest false e =
          let other : m ≢ suc n = eqb-false m (suc n) e in
          let low : m ≤ n = le_of_other other in
          let all = rest (l.0, low) in
          let a = there (suc n) other in
          omega (arith, all, a)
        where
          le_of_other : m ≢ suc n → m ≤ n
          le_of_other o = let up = l.1 in grind (arith, up, o)

abbrev pub member_waits : MemberState → ℕ
member_waits x = length x.log.waiting

abbrev pub coord_waits : CoordState → ℕ
coord_waits y = length y.log.waiting

abbrev pub weight : Federation → ℕ
weight s = sum_to 16 (λ m. member_waits (s.member m)) + sum_to 8 (λ c. coord_waits (s.coord c))
