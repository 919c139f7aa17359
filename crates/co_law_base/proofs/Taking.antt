-- Who took part in a decision: who was told of operations at it, or is named by an opened commit.
use Rattle.std.proofs.Common.{◌≡◌, ◌≢◌, ◌⊎◌, inl, inr, ℕ, true, false, ◌&&◌, ◌==◌, ◌≤◌, nat_le, List, [], ◌∷◌, None, refl, sym, ap, ◌∙◌, subst, arith}
use Rattle.std.proofs.lemmas.Bool.{or_cases, or_left, or_right, and_parts, and_from, eqb-true, eq-eqb}
use Rattle.std.proofs.lemmas.Bool.Decides.{nat_tests}
use Rattle.co_record.specs.declared.record.Record.{Record}
use Rattle.co_state.specs.Table.{look}
use Rattle.co_plain.specs.declared.session.Decided.{Decided}
use Rattle.co_plain.specs.declared.session.Told.{Told}
use Rattle.co_plain.specs.Numbers.{first_lacking, has_number}
use Rattle.co_plain.specs.Sessions.{count_at}
use Rattle.co_plain.specs.Invariants.{took_part}
use Rattle.co_law_base.proofs.Commits.{unended_seen}
use Rattle.co_law_base.proofs.Facts.{Rest, told, asked, takes, ByTold, Named, took, Took, AtDecision, InOpened, Each, NumberFacts}
use Rattle.co_law_base.proofs.KeptTold.{told_begun}

at_least_one : (n : ℕ) → 1 ≤ n → nat_le 1 n ≡ true
at_least_one n h = grind (arith, nat_tests, h)

one_at_least : (n : ℕ) → nat_le 1 n ≡ true → 1 ≤ n
one_at_least n h = grind (arith, nat_tests, h)

-- at the latest decision
pub took_here : (ds : List Decided) (t m : ℕ) (ts : List Told) → 1 ≤ count_at ts m → took_part (record { txn = t; told = ts } ∷ ds) t m ≡ true
took_here ds t m ts h = or_left _ _ (and_from (t == t) (nat_le 1 (count_at ts m)) (eq-eqb t t refl) (at_least_one (count_at ts m) h))

-- one more decision
pub took_more : (d : Decided) (ds : List Decided) (opened : ℕ → List Record) (t m : ℕ) → Took ds opened t m → Took (d ∷ ds) opened t m
took_more d ds opened t m (AtDecision h) = AtDecision (or_right _ _ h)
took_more d ds opened t m (InOpened c members h k) = InOpened c members h k

-- who was told of operations at the decision is told of them now, and all that it is told of it was told then
abbrev Since : Rest → List Decided → ℕ → ℕ → Type 0
Since r ds t k = ((m : ℕ) → 1 ≤ count_at (told r t) m → took_part ds t m ≡ true) × (1 ≤ count_at (told r t) k)

told_since : (r : Rest) (ds : List Decided) → Each (λ d. (d.told ≡ []) ⊎ ((told r d.txn ≡ d.told) × (asked r d.txn ≡ true))) ds → (t k : ℕ) → took_part ds t k ≡ true → Since r ds t k
told_since r [] e t k h = absurd (let z : false ≡ true = h in cc)
told_since r (d ∷ ds) e t k h = by (told_since r ds e.1 t k) (or_cases _ _ h)
  where
    here : d.txn ≡ t → 1 ≤ count_at d.told k → (d.told ≡ []) ⊎ ((told r d.txn ≡ d.told) × (asked r d.txn ≡ true)) → Since r (d ∷ ds) t k
    here same l (inl n) = absurd (let x : 1 ≤ 0 = subst (λ ts. 1 ≤ count_at ts k) n l in omega (arith, x))
    here same l (inr p) =
        let is : told r t ≡ d.told = ap (told r) (sym same) ∙ p.0 in (
          λ m z. or_left _ _ (and_from _ _ (ap (λ n. n == t) same ∙ eq-eqb t t refl) (at_least_one _ (subst (λ ts. 1 ≤ count_at ts m) is z))),
          subst (λ ts. 1 ≤ count_at ts k) (sym is) l,
        )

    by : (took_part ds t k ≡ true → Since r ds t k) → (((d.txn == t) && nat_le 1 (count_at d.told k)) ≡ true) ⊎ (took_part ds t k ≡ true) → Since r (d ∷ ds) t k
    by rest (inr q) = let p = rest q in (λ m l. or_right _ _ (p.0 m l), p.1)
    by rest (inl q) = let p = and_parts (d.txn == t) (nat_le 1 (count_at d.told k)) q in here (eqb-true d.txn t p.0) (one_at_least _ p.1) e.0

-- who took part takes part
pub took_takes : (r : Rest) → NumberFacts r → (t m : ℕ) → took r t m → takes r t m
took_takes r n t m (AtDecision h) = ByTold (told_since r r.decided n.kept t m h).1
took_takes r n t m (InOpened c members h k) = Named c members h k

-- where one took part, all took part that take part now
pub takes_took : (r : Rest) → NumberFacts r → (t k m : ℕ) → took r t k → takes r t m → took r t m
takes_took r n t k m p (Named c members h q) = InOpened c members h q
takes_took r n t k m (AtDecision h) (ByTold l) = AtDecision ((told_since r r.decided n.kept t k h).0 m l)
takes_took r n t k m (InOpened c members h q) (ByTold l) =
    absurd (let z : true ≡ false = sym (n.commit_used c t (unended_seen (r.opened_coord c) t members h)) ∙ n.new t (told_begun (look r.sessions t) m l) in cc)

-- a commit that waits for acknowledgements has participants
pub some_member : (members acks : List ℕ) → first_lacking members acks ≢ None → (k : ℕ) × (has_number members k ≡ true)
some_member [] acks n = absurd (n refl)
some_member (k ∷ ks) acks n = (k, or_left (k == k) _ (eq-eqb k k refl))
