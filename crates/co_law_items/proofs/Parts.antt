-- Participants whose members and counts are in their sets, what is sent to them, and the entries of a table that name such ones.
use Rattle.std.proofs.Common.{◌≡◌, ℕ, suc, Bool, true, false, not, ◌+◌, ◌≤◌, if◌then◌else◌, List, [], ◌∷◌, length, filter, find, None, Some, refl, sym, subst, arith}
use Rattle.std.proofs.lemmas.Bool.Decides.{nat_tests}
use Rattle.std.proofs.lemmas.List.{length-map}
use Rattle.std.specs.List.{AllByRecursion}
use Rattle.std.specs.List.Sorted.{IsStrictlySortedBy}
use Rattle.std.specs.Ordering.{nat_cmp}
use Rattle.std.specs.declared.cmp.Ordering.TheVariants.{Less}
use Rattle.co_base.specs.Order.{IsAscending}
use Rattle.co_base.specs.declared.part.Part.{Part}
use Rattle.co_base.specs.Limits.{most_coordinators, most_members}
use Rattle.co_message.specs.declared.message.Message.TheVariants as message
use Rattle.co_schedule.specs.View.{IsWithin, IsTxn, IsCount, IsMessageFor}
use Rattle.co_plain.specs.CoordStep.{members_of}
use Rattle.co_plain.specs.Coordinator.{prepares_to, decisions_to, member_or_none}
use Rattle.co_plain.specs.Numbers.{first_lacking, has_number}
use Rattle.co_plain.specs.declared.coord_state.Entry.{Entry}
use Rattle.co_plain.specs.declared.coord_state.Entry.TheVariants as entry
use Rattle.co_law_items.proofs.Named.{all_map}
use Rattle.co_law_items.proofs.Logs.{AreMembers}

abbrev pub IsPart : Part → Type 0
IsPart p = IsWithin 1 most_members p.member × IsCount p.count

abbrev pub AreParts : List Part → Type 0
AreParts parts = AllByRecursion IsPart parts × IsAscending (members_of parts)

-- ascending numbers between two bounds are no more than there are between them
few_between : (low high : ℕ) (ms : List ℕ) → low ≤ suc high → IsAscending ms → AllByRecursion (IsWithin low high) ms → length ms + low ≤ suc high
unfolding IsStrictlySortedBy
few_between low high [] l a h = omega (arith, l)
few_between low high (m ∷ ms) l a h =
    let rest = few_between (suc m) high ms (let up = h.0.1 in omega (arith, up)) a.1 (raised ms a.0 h.1) in
    let down = h.0.0 in omega (arith, rest, down)
  where
    above : (k : ℕ) → nat_cmp m k ≡ Less → suc m ≤ k
    above k e = grind (arith, nat_tests, e)

    raised : (ks : List ℕ) → AllByRecursion (λ k. nat_cmp m k ≡ Less) ks → AllByRecursion (IsWithin low high) ks → AllByRecursion (IsWithin (suc m) high) ks
    raised [] a h = tt
    raised (k ∷ ks) a h = ((above k a.0, h.0.1), raised ks a.1 h.1)

pub few_members : (ms : List ℕ) → AreMembers ms → length ms ≤ most_members
few_members ms h = let l = few_between 1 16 ms (omega arith) h.1 h.0 in omega (arith, l)

pub parts_members : (parts : List Part) → AreParts parts → AreMembers (members_of parts)
parts_members parts h = (all_map IsPart (IsWithin 1 most_members) (λ p. p.member) (λ p k. k.0) parts h.0, h.1)

pub few_parts : (parts : List Part) → AreParts parts → length parts ≤ most_members
few_parts parts h = let l = few_members (members_of parts) (parts_members parts h) in let e = length-map parts (λ p. p.member) in omega (arith, l, e)

pub few_filtered : {A : Type 0} (test : A → Bool) (xs : List A) → length (filter test xs) ≤ length xs
few_filtered test [] = omega arith
few_filtered {A} test (x ∷ xs) = by (few_filtered test xs) (test x)
  where
    by : length (filter test xs) ≤ length xs → (b : Bool) → length (if b then x ∷ filter test xs else filter test xs) ≤ suc (length xs)
    by rest true = omega (arith, rest)
    by rest false = omega (arith, rest)

pub found_in : (P : ℕ → Type 0) (test : ℕ → Bool) (xs : List ℕ) → AllByRecursion P xs → (m : ℕ) → find test xs ≡ Some m → P m
found_in P test [] h m e = absurd (let z : None ≡ Some m = e in cc)
found_in P test (x ∷ xs) h m e = by (found_in P test xs h.1 m) (test x) refl e
  where
    by : (find test xs ≡ Some m → P m) → (b : Bool) → test x ≡ b → (if b then Some x else find test xs) ≡ Some m → P m
    by rest true f g = subst P (let z : Some x ≡ Some m = g in cc) h.0
    by rest false f g = rest g

-- ---- the table

-- an entry of the table: who collects lacks somebody
abbrev pub IsEntry : ℕ → Entry → Type 0
IsEntry t entry.Idle = IsTxn t
IsEntry t (entry.Collecting parts yeses) = IsTxn t × AreParts parts × ((m : ℕ) × (first_lacking (members_of parts) yeses ≡ Some m))
IsEntry t (entry.Committed ms acks) = IsTxn t × AreMembers ms

pub lacking_named : (parts : List Part) → AreParts parts → (yeses : List ℕ) → ((m : ℕ) × (first_lacking (members_of parts) yeses ≡ Some m)) →
    IsWithin 1 most_members (member_or_none (first_lacking (members_of parts) yeses))
lacking_named parts h yeses l =
    subst (λ o. IsWithin 1 most_members (member_or_none o)) (sym l.1)
    (found_in (IsWithin 1 most_members) (λ n. not (has_number yeses n)) (members_of parts) (parts_members parts h).0 l.0 l.1)

pub prepares_named : (c t : ℕ) → IsWithin 1 most_coordinators c → IsTxn t → (parts : List Part) → AllByRecursion IsPart parts → AllByRecursion (IsMessageFor most_members most_coordinators) (prepares_to c t parts)
prepares_named c t own small parts h = all_map IsPart (IsMessageFor most_members most_coordinators) (λ p. message.Prepare t c p.member p.count) (λ p k. (small, own, k.0, k.1)) parts h

pub decisions_named : (c t : ℕ) (commit : Bool) → IsWithin 1 most_coordinators c → IsTxn t → (ms : List ℕ) → AllByRecursion (IsWithin 1 most_members) ms → AllByRecursion (IsMessageFor most_members most_coordinators) (decisions_to c t commit ms)
decisions_named c t commit own small ms h = all_map (IsWithin 1 most_members) (IsMessageFor most_members most_coordinators) (λ m. message.Decide t c m commit) (λ m k. (small, own, k)) ms h

pub decisions_few : (c t : ℕ) (commit : Bool) (ms : List ℕ) → length ms ≤ most_members → length (decisions_to c t commit ms) ≤ most_members
decisions_few c t commit ms h = let e = length-map ms (λ m. message.Decide t c m commit) in omega (arith, e, h)

pub prepares_few : (c t : ℕ) (parts : List Part) → length parts ≤ most_members → length (prepares_to c t parts) ≤ most_members
prepares_few c t parts h = let e = length-map parts (λ p. message.Prepare t c p.member p.count) in omega (arith, e, h)
