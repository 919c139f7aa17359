-- The counts of participants.
use Rattle.std.proofs.Common.{◌≡◌, ◌≢◌, ℕ, ◌+◌, ◌<◌, ◌==◌, if◌then◌else◌, List, [], ◌∷◌, ◌++◌, ◌⊎◌, inl, inr, take, drop, length, get_or, slice_set, zero, suc, refl, sym, ap, ◌∙◌, arith}
use Rattle.std.specs.Cmp.{nat_cmp_is}
use Rattle.std.specs.FinMap.Entries.{by_order}
use Rattle.std.specs.declared.cmp.Ordering.TheVariants.{Less, Equal, Greater}
use Rattle.std.proofs.lemmas.Bool.Decides.{nat_tests}
use Rattle.std.proofs.lemmas.Bool.{cases_order}
use Rattle.co_base.specs.declared.part.Part.{Part}
use Rattle.co_base.specs.Parts.{count_among, with_part}

module _ (m : ℕ) (p : Part) (ps : List Part) where
  stands_first : m < p.member → with_part m (p ∷ ps) ≡ record { member = m; count = 1 } ∷ p ∷ ps
  stands_first l =
      ap (λ r. by_order r (record { member = m; count = 1 } ∷ p ∷ ps) (record { member = p.member; count = p.count + 1 } ∷ ps) (p ∷ with_part m ps))
      (sym (nat_cmp_is m p.member Less l))

  counts_here : m ≡ p.member → with_part m (p ∷ ps) ≡ record { member = p.member; count = p.count + 1 } ∷ ps
  counts_here e =
      ap (λ r. by_order r (record { member = m; count = 1 } ∷ p ∷ ps) (record { member = p.member; count = p.count + 1 } ∷ ps) (p ∷ with_part m ps))
      (sym (nat_cmp_is m p.member Equal e))

  goes_on : p.member < m → with_part m (p ∷ ps) ≡ p ∷ with_part m ps
  goes_on g =
      ap (λ r. by_order r (record { member = m; count = 1 } ∷ p ∷ ps) (record { member = p.member; count = p.count + 1 } ∷ ps) (p ∷ with_part m ps))
      (sym (nat_cmp_is m p.member Greater g))

-- all members are above
abbrev pub above : ℕ → List Part → Type 0
above m [] = Unit {0}
above m (p ∷ ps) = (m < p.member) × above m ps

-- the members ascend
abbrev pub ascends : List Part → Type 0
ascends [] = Unit {0}
ascends (p ∷ ps) = above p.member ps × ascends ps

above_all : (k m : ℕ) (ps : List Part) → k < m → above m ps → above k ps
above_all k m [] l a = tt
above_all k m (p ∷ ps) l a = (omega (arith, l, a.0), above_all k m ps l a.1)

above_more : (k m : ℕ) (ps : List Part) → k < m → above k ps → above k (with_part m ps)
above_more k m [] l a = (l, tt)
above_more k m (p ∷ ps) l a = by (above_more k m ps l a.1) (cases_order m p.member)
  where
    by : above k (with_part m ps) → (m ≡ p.member) ⊎ ((m < p.member) ⊎ (p.member < m)) → above k (with_part m (p ∷ ps))
    by rest (inl e) = rw (counts_here m p ps e) a
    by rest (inr (inl b)) = rw (stands_first m p ps b) (l, a)
    by rest (inr (inr g)) = rw (goes_on m p ps g) (a.0, rest)

pub ascends_more : (m : ℕ) (ps : List Part) → ascends ps → ascends (with_part m ps)
ascends_more m [] s = (tt, tt)
ascends_more m (p ∷ ps) s = by (ascends_more m ps s.1) (cases_order m p.member)
  where
    by : ascends (with_part m ps) → (m ≡ p.member) ⊎ ((m < p.member) ⊎ (p.member < m)) → ascends (with_part m (p ∷ ps))
    by rest (inl e) = rw (counts_here m p ps e) s
    by rest (inr (inl b)) = rw (stands_first m p ps b) ((b, above_all m p.member ps b s.0), s)
    by rest (inr (inr g)) = rw (goes_on m p ps g) (above_more p.member m ps g s.0, rest)

absent : (m : ℕ) (ps : List Part) → above m ps → count_among ps m ≡ 0
absent m [] a = refl
absent m (p ∷ ps) a = grind (arith, nat_tests, a.0, absent m ps a.1)

pub counts_one : (m : ℕ) (ps : List Part) → ascends ps → count_among (with_part m ps) m ≡ count_among ps m + 1
counts_one m [] s = grind (arith, nat_tests)
counts_one m (p ∷ ps) s = by (counts_one m ps s.1) (cases_order m p.member)
  where
    by : count_among (with_part m ps) m ≡ count_among ps m + 1 → (m ≡ p.member) ⊎ ((m < p.member) ⊎ (p.member < m)) → count_among (with_part m (p ∷ ps)) m ≡ count_among (p ∷ ps) m + 1
    by rest (inl e) = rw (counts_here m p ps e) (grind (arith, nat_tests, e))
    by rest (inr (inl b)) = rw (stands_first m p ps b) (grind (arith, nat_tests, b, absent m ps (above_all m p.member ps b s.0)))
    by rest (inr (inr g)) = rw (goes_on m p ps g) (grind (arith, nat_tests, g, rest))

pub keeps_others : (m k : ℕ) (ps : List Part) → m ≢ k → count_among (with_part m ps) k ≡ count_among ps k
keeps_others m k [] n = grind (arith, nat_tests, n)
keeps_others m k (p ∷ ps) n = by (keeps_others m k ps n) (cases_order m p.member)
  where
    by : count_among (with_part m ps) k ≡ count_among ps k → (m ≡ p.member) ⊎ ((m < p.member) ⊎ (p.member < m)) → count_among (with_part m (p ∷ ps)) k ≡ count_among (p ∷ ps) k
    by rest (inl e) = rw (counts_here m p ps e) (grind (arith, nat_tests, e, n))
    by rest (inr (inl b)) = rw (stands_first m p ps b) (grind (arith, nat_tests, b, n))
    by rest (inr (inr g)) = rw (goes_on m p ps g) (ap (λ c. if p.member == k then p.count else c) rest)

-- one more operation at a member that stands at this place
pub counted_at : (xs : List Part) (i m : ℕ) (p : Part) → i < length xs → p ≡ get_or xs i p → p.member ≡ m
    → slice_set xs i (record { member = m; count = p.count + 1 }) ≡ take i xs ++ with_part m (drop i xs)
counted_at [] i m p l is e = absurd (omega (arith, l))
counted_at (x ∷ xs) zero m p l is e =
    let same : x ≡ p = sym is in
    sym (counts_here m x xs (sym (ap (λ q. q.member) same ∙ e))
    ∙ (λ i. record { member = (ap (λ q. q.member) same ∙ e) i; count = (same i).count + 1 } ∷ xs))
counted_at (x ∷ xs) (suc i) m p l is e = ap (λ ps. x ∷ ps) (counted_at xs i m p (omega (arith, l)) is e)
