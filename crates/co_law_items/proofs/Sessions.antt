-- What clients were told names members, at each of which they were told of at most 1,024 operations; so the participants of their commits can be named.
use Rattle.std.proofs.Common.{◌≡◌, ℕ, Bool, true, false, ◌+◌, ◌≤◌, ◌==◌, if◌then◌else◌, List, [], ◌∷◌, refl, sym, ap, subst, arith}
use Rattle.std.proofs.lemmas.Bool.{eq-eqb, eqb-true}
use Rattle.std.specs.FinMap.{nat_cmp-IsAntisymmetric}
use Rattle.std.specs.FinMap.Entries.{by_order}
use Rattle.std.specs.List.{AllByRecursion}
use Rattle.std.specs.Ordering.{nat_cmp}
use Rattle.std.specs.declared.cmp.Ordering.{Ordering}
use Rattle.std.specs.declared.cmp.Ordering.TheVariants.{Less, Equal, Greater}
use Rattle.co_base.specs.declared.part.Part.{Part}
use Rattle.co_schedule.specs.View.{IsWithin, IsNode}
use Rattle.co_base.specs.Parts.{with_part}
use Rattle.co_base.specs.Limits.{most_coordinators, most_members, most_operations}
use Rattle.co_plain.specs.Sessions.{count_at, parts_of, with_told}
use Rattle.co_plain.specs.declared.session.Session.{Session}
use Rattle.co_plain.specs.declared.session.Told.{Told}
use Rattle.co_law_base.proofs.Sending.{parts_ascend}
use Rattle.co_law_items.proofs.Named.{all_as}
use Rattle.co_law_items.proofs.Parts.{IsPart, AreParts}

-- the member of an operation
abbrev pub IsToldAt : Told → Type 0
IsToldAt o = IsWithin 1 most_members o.site.member

pub record IsSession (session : Session) : Type 0 where
  pub by : IsNode most_members most_coordinators session.by
  pub told : AllByRecursion IsToldAt session.told
  pub few : (m : ℕ) → count_at session.told m ≤ most_operations

-- a participant with a count that was told
abbrev IsCounted : List Told → Part → Type 0
IsCounted os p = IsWithin 1 most_members p.member × (p.count ≤ count_at os p.member)

count_one_more : (o : Told) (os : List Told) (m : ℕ) → count_at os m ≤ count_at (o ∷ os) m
count_one_more o os m = by (o.site.member == m)
  where
    by : (b : Bool) → count_at os m ≤ (if b then count_at os m + 1 else count_at os m)
    by true = omega arith
    by false = omega arith

count_own : (o : Told) (os : List Told) → count_at (o ∷ os) o.site.member ≡ count_at os o.site.member + 1
count_own o os = ap (λ b. if b then count_at os o.site.member + 1 else count_at os o.site.member) (eq-eqb o.site.member o.site.member refl)

with_part_counted : (o : Told) (os : List Told) → IsToldAt o → (ps : List Part) → AllByRecursion (IsCounted os) ps → AllByRecursion (IsCounted (o ∷ os)) (with_part o.site.member ps)
with_part_counted o os own [] h = ((own, one), tt)
  where
    one : 1 ≤ count_at (o ∷ os) o.site.member
    one = let e = count_own o os in omega (arith, e)
with_part_counted o os own (p ∷ ps) h = by (with_part_counted o os own ps h.1) (nat_cmp o.site.member p.member) refl
  where
    one : 1 ≤ count_at (o ∷ os) o.site.member
    one = let e = count_own o os in omega (arith, e)

    old : (q : Part) → IsCounted os q → IsCounted (o ∷ os) q
    old q k = let c = k.1 in let d = count_one_more o os q.member in (k.0, omega (arith, c, d))

    more : o.site.member ≡ p.member → p.count + 1 ≤ count_at (o ∷ os) p.member
    more e =
        subst (λ n. p.count + 1 ≤ count_at (o ∷ os) n) e
        (let c : p.count ≤ count_at os o.site.member = subst (λ n. p.count ≤ count_at os n) (sym e) h.0.1 in let d = count_own o os in omega (arith, c, d))

    by : AllByRecursion (IsCounted (o ∷ os)) (with_part o.site.member ps) → (r : Ordering) → nat_cmp o.site.member p.member ≡ r →
        AllByRecursion (IsCounted (o ∷ os)) (by_order r (record { member = o.site.member; count = 1 } ∷ p ∷ ps) (record { member = p.member; count = p.count + 1 } ∷ ps) (p ∷ with_part o.site.member ps))
    by rest Less e = ((own, one), (old p h.0, all_as (IsCounted os) (IsCounted (o ∷ os)) old ps h.1))
    by rest Equal e = ((h.0.0, more (nat_cmp-IsAntisymmetric o.site.member p.member e)), all_as (IsCounted os) (IsCounted (o ∷ os)) old ps h.1)
    by rest Greater e = (old p h.0, rest)

parts_counted : (os : List Told) → AllByRecursion IsToldAt os → AllByRecursion (IsCounted os) (parts_of os)
parts_counted [] h = tt
parts_counted (o ∷ os) h = with_part_counted o os h.0 (parts_of os) (parts_counted os h.1)

pub session_parts : (session : Session) → IsSession session → AreParts (parts_of session.told)
session_parts session n = (
  all_as (IsCounted session.told) IsPart (λ p k. (k.0, (let c = k.1 in let f : count_at session.told p.member ≤ 1024 = n.few p.member in omega (arith, c, f)))) (parts_of session.told) (parts_counted session.told n.told),
  parts_ascend session.told,
)

-- one more operation, where there were fewer than may be
pub more_told : (session : Session) → IsSession session → (o : Told) → IsToldAt o → count_at session.told o.site.member + 1 ≤ most_operations →
    IsSession (with_told session o)
more_told session n o own room = record { by = n.by; told = (own, n.told); few = λ m. counted m (o.site.member == m) refl }
  where
    counted : (m : ℕ) (b : Bool) → (o.site.member == m) ≡ b → (if o.site.member == m then count_at session.told m + 1 else count_at session.told m) ≤ most_operations
    counted m true e =
        subst (λ b. (if b then count_at session.told m + 1 else count_at session.told m) ≤ most_operations) (sym e)
        (subst (λ n. count_at session.told n + 1 ≤ most_operations) (eqb-true o.site.member m e) room)
    counted m false e = subst (λ b. (if b then count_at session.told m + 1 else count_at session.told m) ≤ most_operations) (sym e) (n.few m)
