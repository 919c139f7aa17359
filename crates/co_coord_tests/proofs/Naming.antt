-- Members that a commit may name.
use Rattle.std.proofs.Common.{◌≡◌, ℕ, true, ◌≤◌, ◌<◌, List, [], ◌∷◌, refl, sym, arith}
use Rattle.std.specs.Prelude.{length, get_or}
use Rattle.std.specs.Cmp.{nat_cmp_is}
use Rattle.std.specs.Ordering.{nat_cmp}
use Rattle.std.specs.declared.cmp.Ordering.TheVariants.{Less}
use Rattle.std.proofs.lemmas.Bool.Decides.{nat_tests}
use Rattle.co_record.proofs.Short.{none_sorted, one_sorted, two_sorted}
use Rattle.co_plain.specs.CoordView.{all_up_to}
use Rattle.co_coord_tests.specs.Played.{AreNamed}

-- one more member
one_more : (a : ℕ) (ms : List ℕ) → 1 ≤ a → a ≤ 3 → all_up_to 3 ms ≡ true → all_up_to 3 (a ∷ ms) ≡ true
one_more a ms low high rest = grind (arith, nat_tests, low, high, rest)

named_one : (a : ℕ) → 1 ≤ a → a ≤ 3 → AreNamed (a ∷ [])
named_one a low high = (one_more a [] low high refl, one_sorted nat_cmp a)

pub named_two : (a b : ℕ) → 1 ≤ a → a < b → b ≤ 3 → AreNamed (a ∷ b ∷ [])
named_two a b low below high =
    (one_more a (b ∷ []) low (omega (arith, below, high)) (one_more b [] (omega (arith, low, below)) high refl), two_sorted nat_cmp a b (sym (nat_cmp_is a b Less below)))

-- members by their count
pub none_are : (xs : List ℕ) → length xs < 1 → AreNamed xs
none_are [] below = (refl, none_sorted nat_cmp [] refl)
none_are (x ∷ xs) below = absurd (omega (arith, below))

pub one_is : (xs : List ℕ) → 1 ≤ length xs → length xs < 2 → 1 ≤ get_or xs 0 0 → get_or xs 0 0 ≤ 3 → AreNamed xs
one_is [] some below low high = absurd (omega (arith, some))
one_is (a ∷ []) some below low high = named_one a low high
one_is (a ∷ b ∷ xs) some below low high = absurd (omega (arith, below))

pub two_are : (xs : List ℕ) → 2 ≤ length xs → length xs < 3 → 1 ≤ get_or xs 0 0 → get_or xs 0 0 < get_or xs 1 0 → get_or xs 1 0 ≤ 3 → AreNamed xs
two_are [] some below low apart high = absurd (omega (arith, some))
two_are (a ∷ []) some below low apart high = absurd (omega (arith, some))
two_are (a ∷ b ∷ []) some below low apart high = named_two a b low apart high
two_are (a ∷ b ∷ x ∷ xs) some below low apart high = absurd (omega (arith, below))
