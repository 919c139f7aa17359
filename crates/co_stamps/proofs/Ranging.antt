-- Numbers at or above one, and below one.
use Rattle.std.proofs.Common.{Some, ◌≡◌, ℕ, ◌<◌, true, ◌&&◌, not, nat_lt, filter, List, [], ◌∷◌, ◌++◌, ◌⊎◌, inl, inr, refl, sym, ap, ◌∙◌, arith}
use Rattle.co_stamps.specs.Bearing.{number_or, last_of}
use Rattle.std.specs.Prelude.{nat_le}
use Rattle.std.specs.Ordering.{nat_cmp, is_le}
use Rattle.std.specs.Cmp.{nat_cmp_is}
use Rattle.std.specs.BTreeMap.Range.{entries_between}
use Rattle.std.specs.declared.ops.Bound.TheVariants.{Included, Excluded, Unbounded}
use Rattle.std.specs.declared.cmp.Ordering.TheVariants.{Less, Equal, Greater}
use Rattle.std.proofs.lemmas.Bool.{cases_order}
use Rattle.std.proofs.lemmas.Bool.Decides.{nat_tests}

from_is : (a u : ℕ) → (is_le (nat_cmp a u) && true) ≡ nat_le a u
from_is a u = by (cases_order a u)
  where
    by : (a ≡ u) ⊎ ((a < u) ⊎ (u < a)) → (is_le (nat_cmp a u) && true) ≡ nat_le a u
    by (inl q) = ap (λ r. is_le r && true) (sym (nat_cmp_is a u Equal q)) ∙ grind (arith, nat_tests)
    by (inr (inl l)) = ap (λ r. is_le r && true) (sym (nat_cmp_is a u Less l)) ∙ grind (arith, nat_tests)
    by (inr (inr m)) = ap (λ r. is_le r && true) (sym (nat_cmp_is a u Greater m)) ∙ grind (arith, nat_tests)

below_is : (b u : ℕ) → not (is_le (nat_cmp b u)) ≡ nat_lt u b
below_is b u = by (cases_order b u)
  where
    by : (b ≡ u) ⊎ ((b < u) ⊎ (u < b)) → not (is_le (nat_cmp b u)) ≡ nat_lt u b
    by (inl q) = ap (λ r. not (is_le r)) (sym (nat_cmp_is b u Equal q)) ∙ grind (arith, nat_tests)
    by (inr (inl l)) = ap (λ r. not (is_le r)) (sym (nat_cmp_is b u Less l)) ∙ grind (arith, nat_tests)
    by (inr (inr m)) = ap (λ r. not (is_le r)) (sym (nat_cmp_is b u Greater m)) ∙ grind (arith, nat_tests)

pub between_from : {X : Type 0} (number : ℕ) (es : List (ℕ × X)) → entries_between nat_cmp (Included number) Unbounded es ≡ filter (λ e. nat_le number e.0) es
between_from {X = X} number es = λ i. filter (λ (e : ℕ × X). from_is number e.0 i) es

pub between_below : {X : Type 0} (number : ℕ) (es : List (ℕ × X)) → entries_between nat_cmp Unbounded (Excluded number) es ≡ filter (λ e. nat_lt e.0 number) es
between_below {X = X} number es = λ i. filter (λ (e : ℕ × X). below_is number e.0 i) es

pub last_of-push : {X : Type 0} (es : List (ℕ × X)) (e : ℕ × X) → last_of (es ++ e ∷ []) ≡ Some e.0
last_of-push [] e = refl
last_of-push (f ∷ es) e = ap (λ o. Some (number_or f.0 o)) (last_of-push es e)
