-- The test for a number from 1 to a count; and sets of numbers: the keys of a table, and what is in a set that others were laid into.
use Rattle.std.proofs.Common.{◌≡◌, ◌⊎◌, inl, inr, ℕ, zero, suc, Bool, true, false, cond, ◌||◌, ◌&&◌, ◌==◌, ◌≤◌, nat_le, List, [], ◌∷◌, map, Some, refl, sym, ap, ◌∙◌, arith}
use Rattle.std.specs.Option.{is_some}
use Rattle.std.specs.Ordering.{nat_cmp, eq_by_cmp}
use Rattle.std.specs.FinMap.{entries, get-entries, keys}
use Rattle.std.specs.FinMap.Entries.{find}
use Rattle.std.proofs.lemmas.Bool.{or_left, or_right, or_cases, and_parts, and_from, eqb-true, eqb-false, eq-eqb}
use Rattle.std.proofs.lemmas.Bool.Decides.{nat_tests}
use Rattle.co_state.specs.Table.{Table, holds}
use Rattle.co_plain.specs.Numbers.{IsAmong, has_number}
use Rattle.co_plain.specs.MemberView.{Numbers, with_number, with_numbers}
use Rattle.co_plain.specs.Opening.{with_all, union_to}
use Rattle.co_law_base.proofs.Lookups.{same_number}
use Rattle.co_law_base.proofs.Commits.{holds_more, holds_new}

pub among_from : (n count : ℕ) → (nat_le 1 n && nat_le n count) ≡ true → IsAmong n count
among_from n count h = let p = and_parts (nat_le 1 n) (nat_le n count) h in (grind (arith, nat_tests, p.0), grind (arith, nat_tests, p.1))

pub among_test : (n count : ℕ) → IsAmong n count → (nat_le 1 n && nat_le n count) ≡ true
among_test n count i = and_from _ _ (low n i.0) (high n i.1)
  where
    low : (k : ℕ) → 1 ≤ k → nat_le 1 k ≡ true
    low k l = grind (arith, nat_tests, l)

    high : (k : ℕ) → k ≤ count → nat_le k count ≡ true
    high k l = grind (arith, nat_tests, l)

-- numbers laid into a set
more_has : (n : Numbers) (ts : List ℕ) (t : ℕ) → holds n t ≡ true → holds (with_numbers n ts) t ≡ true
more_has n [] t h = h
more_has n (u ∷ us) t h = more_has (with_number n u) us t (holds_more n u t h)

pub laid_has : (n : Numbers) (ts : List ℕ) (t : ℕ) → has_number ts t ≡ true → holds (with_numbers n ts) t ≡ true
laid_has n [] t h = absurd (let z : false ≡ true = h in cc)
laid_has n (u ∷ us) t h = by (laid_has (with_number n u) us t) (or_cases (u == t) (has_number us t) h)
  where
    by : (has_number us t ≡ true → holds (with_numbers (with_number n u) us) t ≡ true) → ((u == t) ≡ true) ⊎ (has_number us t ≡ true) → holds (with_numbers (with_number n u) us) t ≡ true
    by rest (inl e) = more_has (with_number n u) us t (ap (holds (with_number n u)) (sym (eqb-true u t e)) ∙ holds_new n u)
    by rest (inr k) = rest k

-- the keys of a table
found_key : {X : Type 0} (es : List (ℕ × X)) (t : ℕ) → is_some (find nat_cmp t es) ≡ true → has_number (map (λ e. e.0) es) t ≡ true
found_key [] t h = absurd (let z : false ≡ true = h in cc)
found_key {X} (e ∷ es) t h = by (found_key es t) (eq_by_cmp nat_cmp t e.0) refl
  where
    by : (is_some (find nat_cmp t es) ≡ true → has_number (map (λ e. e.0) es) t ≡ true) → (b : Bool) → eq_by_cmp nat_cmp t e.0 ≡ b → ((e.0 == t) || has_number (map (λ e. e.0) es) t) ≡ true
    by rest true g = or_left (e.0 == t) (has_number (map (λ e. e.0) es) t) (eq-eqb e.0 t (sym (same_number t e.0 g)))
    by rest false g = or_right (e.0 == t) (has_number (map (λ e. e.0) es) t) (rest (sym (ap (λ c. is_some (cond c (Some e.1) (find nat_cmp t es))) g) ∙ h))

pub key_of : {X : Type 0} (table : Table X) (t : ℕ) → holds table t ≡ true → has_number (keys table) t ≡ true
key_of table t h = found_key (entries table) t (sym (ap is_some (get-entries table t)) ∙ h)

-- two sets together, and the union of the first so many
pub first_has : (a b : Numbers) (t : ℕ) → holds a t ≡ true → holds (with_all a b) t ≡ true
first_has a b t h = more_has a (keys b) t h

pub second_has : (a b : Numbers) (t : ℕ) → holds b t ≡ true → holds (with_all a b) t ≡ true
second_has a b t h = laid_has a (keys b) t (key_of b t h)

pub union_has : (n : ℕ) (sets : ℕ → Numbers) (m t : ℕ) → IsAmong m n → holds (sets m) t ≡ true → holds (union_to n sets) t ≡ true
union_has zero sets m t i h = absurd (omega (arith, i.0, i.1))
union_has (suc n) sets m t i h = by (union_has n sets m t) (m == suc n) refl
  where
    by : (IsAmong m n → holds (sets m) t ≡ true → holds (union_to n sets) t ≡ true) → (b : Bool) → (m == suc n) ≡ b → holds (with_all (union_to n sets) (sets (suc n))) t ≡ true
    by rest true e = second_has (union_to n sets) (sets (suc n)) t (ap (λ k. holds (sets k) t) (sym (eqb-true m (suc n) e)) ∙ h)
    by rest false e = let d = eqb-false m (suc n) e in first_has (union_to n sets) (sets (suc n)) t (rest (i.0, omega (arith, i.1, d)) h)
