-- The entries of a table above a number.
use Rattle.std.proofs.Common.{Some, ◌≡◌, ℕ, ◌<◌, Bool, true, false, ◌&&◌, nat_lt, if◌then◌else◌, filter, List, [], ◌∷◌, ◌⊎◌, inl, inr, refl, sym, ap, ◌∙◌, arith}
use Rattle.std.specs.Ordering.{nat_cmp, is_lt}
use Rattle.std.specs.Cmp.{nat_cmp_is}
use Rattle.std.specs.BTreeMap.Range.{entries_between}
use Rattle.std.specs.declared.ops.Bound.TheVariants.{Excluded, Unbounded}
use Rattle.std.specs.declared.cmp.Ordering.TheVariants.{Less, Equal, Greater}
use Rattle.std.proofs.lemmas.Bool.{cases_order}
use Rattle.std.proofs.lemmas.Bool.Decides.{nat_tests}
use Rattle.co_state.specs.Table.{first_in, first_of}

above_is : (a u : ℕ) → (is_lt (nat_cmp a u) && true) ≡ nat_lt a u
above_is a u = by (cases_order a u)
  where
    by : (a ≡ u) ⊎ ((a < u) ⊎ (u < a)) → (is_lt (nat_cmp a u) && true) ≡ nat_lt a u
    by (inl q) = ap (λ r. is_lt r && true) (sym (nat_cmp_is a u Equal q)) ∙ grind (arith, nat_tests)
    by (inr (inl l)) = ap (λ r. is_lt r && true) (sym (nat_cmp_is a u Less l)) ∙ grind (arith, nat_tests)
    by (inr (inr m)) = ap (λ r. is_lt r && true) (sym (nat_cmp_is a u Greater m)) ∙ grind (arith, nat_tests)

-- a range behind a number has the entries above it
pub between_above : {X : Type 0} (after : ℕ) (es : List (ℕ × X)) → entries_between nat_cmp (Excluded after) Unbounded es ≡ filter (λ e. nat_lt after e.0) es
between_above {X = X} after es = λ i. filter (λ (e : ℕ × X). above_is after e.0 i) es

-- the first of them is the first that passes
pub first_passes : {X : Type 0} (after : ℕ) (es : List (ℕ × X)) → first_of (filter (λ e. nat_lt after e.0) es) ≡ first_in (λ u x. nat_lt after u) es
first_passes after [] = refl
first_passes {X = X} after (e ∷ es) = by (nat_lt after e.0) (first_passes after es)
  where
    by : (b : Bool) → first_of (filter (λ (f : ℕ × X). nat_lt after f.0) es) ≡ first_in (λ u x. nat_lt after u) es →
        first_of (if b then e ∷ filter (λ (f : ℕ × X). nat_lt after f.0) es else filter (λ (f : ℕ × X). nat_lt after f.0) es) ≡ (if b then Some e.0 else first_in (λ u x. nat_lt after u) es)
    by true more = refl
    by false more = more

-- the first of all passes where all do
pub first_first : {X : Type 0} (es : List (ℕ × X)) → first_of es ≡ first_in (λ u x. true) es
first_first [] = refl
first_first (e ∷ es) = refl
