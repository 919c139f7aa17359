-- A walk over the open transactions in their order passes over none.
use Rattle.std.proofs.Common.{◌≡◌, ◌⊎◌, inl, inr, ℕ, zero, suc, ◌<◌, ◌≤◌, ◌-◌, Bool, true, false, ◌||◌, length, Option, None, Some, refl, sym, ◌∙◌, subst, arith}
use Rattle.std.proofs.lemmas.Bool.{cases_order, or_cases}
use Rattle.std.proofs.lemmas.Bool.Decides.{nat_tests}
use Rattle.co_base.specs.declared.node.Node.{Node}
use Rattle.co_base.specs.declared.node.Node.TheVariants as node
use Rattle.co_state.specs.Table.{Table, look, holds, least_where}
use Rattle.co_state.specs.declared.engine_state.EngineState.{EngineState}
use Rattle.co_plain.specs.Decisions.{votes_for}
use Rattle.co_plain.specs.Federation.{Federation}
use Rattle.co_plain.specs.Quiet.{IsNode, IsOpen, InTable, ActiveAt, VotedAt, IsEnabled, Prepares, Votes, Commits, Asks, lacks_yes, lacks_ack}
use Rattle.co_plain.specs.Quiet as plain
use Rattle.co_plain.specs.Settling.{exchange_txn, ExchangeBefore, IsFirstExchange, IsFirstTimer, timer_ends, is_idle}
use Rattle.co_plain.specs.declared.coord_state.CoordState.{CoordState}
use Rattle.co_plain.specs.declared.coord_state.Entry.{Entry}
use Rattle.co_state.specs.declared.engine_state.Vote.{Vote}
use Rattle.std.specs.Option.{is_some}
use Rattle.std.proofs.lemmas.Bool.{and_parts}
use Rattle.co_coord.specs.Reading.{is_above}
use Rattle.co_member.specs.Reading.{open_after}
use Rattle.co_undecided.proofs.Least.{IsLeast, least_of_both, table_least, passed}
use Rattle.co_cluster.specs.Readings.{least_to, open_above, IsFirstOf, IsFirstAt}

-- ---- the least of all nodes

abbrev any_to : ℕ → (ℕ → Bool) → Bool
any_to zero test = false
any_to (suc n) test = any_to n test || test (suc n)

or_left : (a b : Bool) → a ≡ true → (a || b) ≡ true
or_left true b e = refl
or_left false b e = absurd (let z : false ≡ true = e in cc)

or_right : (a b : Bool) → b ≡ true → (a || b) ≡ true
or_right true b e = refl
or_right false b e = e

any_holds : (n k : ℕ) (test : ℕ → Bool) → 1 ≤ k → k ≤ n → test k ≡ true → any_to n test ≡ true
any_holds zero k test from to h = absurd (omega (arith, from, to))
any_holds (suc n) k test from to h = by (any_holds n k test from) (cases_order k (suc n))
  where
    by : (k ≤ n → test k ≡ true → any_to n test ≡ true) → (k ≡ suc n) ⊎ ((k < suc n) ⊎ (suc n < k)) → (any_to n test || test (suc n)) ≡ true
    by rest (inl e) = or_right (any_to n test) (test (suc n)) (subst (λ i. test i ≡ true) e h)
    by rest (inr (inl l)) = or_left (any_to n test) (test (suc n)) (rest (omega (arith, l)) h)
    by rest (inr (inr l)) = absurd (omega (arith, l, to))

any_has : {A : Type 0} (n : ℕ) (test : ℕ → Bool) → ((k : ℕ) → test k ≡ true → A) → any_to n test ≡ true → A
any_has {A} zero test give h = absurd (let z : false ≡ true = h in cc)
any_has {A} (suc n) test give h = by (any_has n test give) (or_cases (any_to n test) (test (suc n)) h)
  where
    by : (any_to n test ≡ true → A) → (any_to n test ≡ true) ⊎ (test (suc n) ≡ true) → A
    by rest (inl e) = rest e
    by rest (inr e) = give (suc n) e

all_least : (n : ℕ) (f : ℕ → Option ℕ) (test : ℕ → ℕ → Bool) → ((k : ℕ) → IsLeast (test k) (f k)) → IsLeast (λ u. any_to n (λ k. test k u)) (least_to n f)
all_least zero f test each = λ u. refl
all_least (suc n) f test each = least_of_both (λ u. any_to n (λ k. test k u)) (test (suc n)) (least_to n f) (f (suc n)) (all_least n f test each) (each (suc n))

-- ---- what is open above a number

abbrev undecided_above : Option ℕ → EngineState → ℕ → Bool
undecided_above after b u = passed (λ v os. is_above after v) u (look b.active u) || passed (λ v vote. is_above after v) u (look b.voted u)

abbrev tabled_above : Option ℕ → CoordState → ℕ → Bool
tabled_above after y u = passed (λ v e. is_above after v) u (look y.table u)

abbrev open_test : Federation → Option ℕ → ℕ → Bool
open_test s after u = any_to (length s.kinds) (λ m. undecided_above after (s.member m).engine u) || any_to s.coordinators (λ c. tabled_above after (s.coord c) u)

open_least : (s : Federation) (after : Option ℕ) → IsLeast (open_test s after) (open_above s after)
open_least s after =
    least_of_both (λ u. any_to (length s.kinds) (λ m. undecided_above after (s.member m).engine u)) (λ u. any_to s.coordinators (λ c. tabled_above after (s.coord c) u)) _ _
    (all_least (length s.kinds) (λ m. open_after (s.member m).engine after) (λ m u. undecided_above after (s.member m).engine u)
    (λ m. least_of_both _ _ _ _ (table_least (λ v os. is_above after v) (s.member m).engine.active) (table_least (λ v vote. is_above after v) (s.member m).engine.voted)))
    (all_least s.coordinators (λ c. least_where (λ t e. is_above after t) (s.coord c).table) (λ c u. tabled_above after (s.coord c) u) (λ c. table_least (λ t e. is_above after t) (s.coord c).table))

held_passes : {X : Type 0} (after : Option ℕ) (table : Table X) (u : ℕ) → holds table u ≡ true → is_above after u ≡ true → passed (λ v x. is_above after v) u (look table u) ≡ true
held_passes {X} after table u h above = by (look table u) h
  where
    by : (o : Option X) → is_some o ≡ true → passed (λ v x. is_above after v) u o ≡ true
    by None e = absurd (let z : false ≡ true = e in cc)
    by (Some x) e = above

passed_above : {X : Type 0} (after : Option ℕ) (u : ℕ) (o : Option X) → passed (λ v x. is_above after v) u o ≡ true → is_above after u ≡ true
passed_above after u None e = absurd (let z : false ≡ true = e in cc)
passed_above after u (Some x) e = e

open_passes : (s : Federation) (after : Option ℕ) (u : ℕ) → IsOpen s u → is_above after u ≡ true → open_test s after u ≡ true
open_passes s after u (InTable c own h) above =
    or_right (any_to (length s.kinds) (λ m. undecided_above after (s.member m).engine u)) (any_to s.coordinators (λ k. tabled_above after (s.coord k) u))
    (any_holds s.coordinators c (λ k. tabled_above after (s.coord k) u) own.0 own.1 (held_passes after (s.coord c).table u h above))
open_passes s after u (ActiveAt m own h) above =
    or_left (any_to (length s.kinds) (λ k. undecided_above after (s.member k).engine u)) (any_to s.coordinators (λ c. tabled_above after (s.coord c) u))
    (any_holds (length s.kinds) m (λ k. undecided_above after (s.member k).engine u) own.0 own.1 (or_left _ _ (held_passes after (s.member m).engine.active u h above)))
open_passes s after u (VotedAt m own h) above =
    or_left (any_to (length s.kinds) (λ k. undecided_above after (s.member k).engine u)) (any_to s.coordinators (λ c. tabled_above after (s.coord c) u))
    (any_holds (length s.kinds) m (λ k. undecided_above after (s.member k).engine u) own.0 own.1
    (or_right (passed (λ v os. is_above after v) u (look (s.member m).engine.active u)) _ (held_passes after (s.member m).engine.voted u h above)))

test_above : (s : Federation) (after : Option ℕ) (u : ℕ) → open_test s after u ≡ true → is_above after u ≡ true
test_above s after u h = by (or_cases _ _ h)
  where
    either : (m : ℕ) → (undecided_above after (s.member m).engine u ≡ true) → is_above after u ≡ true
    either m e = both (or_cases _ _ e)
      where
        both : (passed (λ v os. is_above after v) u (look (s.member m).engine.active u) ≡ true) ⊎ (passed (λ v vote. is_above after v) u (look (s.member m).engine.voted u) ≡ true) → is_above after u ≡ true
        both (inl p) = passed_above after u (look (s.member m).engine.active u) p
        both (inr p) = passed_above after u (look (s.member m).engine.voted u) p

    by : (any_to (length s.kinds) (λ m. undecided_above after (s.member m).engine u) ≡ true) ⊎ (any_to s.coordinators (λ c. tabled_above after (s.coord c) u) ≡ true) → is_above after u ≡ true
    by (inl p) = any_has (length s.kinds) (λ m. undecided_above after (s.member m).engine u) either p
    by (inr p) = any_has s.coordinators (λ c. tabled_above after (s.coord c) u) (λ c e. passed_above after u (look (s.coord c).table u) e) p

-- ---- a walk

-- below the next one, or anywhere where there is none
abbrev pub IsPassed : Option ℕ → ℕ → Type 0
IsPassed None u = Unit {0}
IsPassed (Some t) u = u < t

-- what is left at most
abbrev pub room : Option ℕ → ℕ
room None = 0
room (Some t) = 4294967296 - t

module _ (s : Federation) (Sought : ℕ → Type 0) (opens : (u : ℕ) → Sought u → IsOpen s u) where
  -- nothing that is sought was passed over
  abbrev pub HasPassed : Option ℕ → Type 0
  HasPassed next = (u : ℕ) → IsPassed next u → Sought u → ⊥

  beyond : (after next : Option ℕ) → next ≡ open_above s after → (u : ℕ) → is_above after u ≡ true → IsPassed next u → Sought u → ⊥
  beyond after next is u above below sought = by next (subst (IsLeast (open_test s after)) (sym is) (open_least s after)) below
    where
      passes : open_test s after u ≡ true
      passes = open_passes s after u (opens u sought) above

      by : (o : Option ℕ) → IsLeast (open_test s after) o → IsPassed o u → ⊥
      by None least p = let z : true ≡ false = sym passes ∙ least u in cc
      by (Some t) least p = let z : true ≡ false = sym passes ∙ least.1 u p in cc

  pub walk_starts : (next : Option ℕ) → next ≡ open_above s None → HasPassed next
  walk_starts next is = λ u below sought. beyond None next is u refl below sought

  pub walk_goes_on : (t : ℕ) (next : Option ℕ) → next ≡ open_above s (Some t) → HasPassed (Some t) → (Sought t → ⊥) → HasPassed next
  walk_goes_on t next is passed not_here = λ u below sought. by u below sought (cases_order u t)
    where
      by : (u : ℕ) → IsPassed next u → Sought u → (u ≡ t) ⊎ ((u < t) ⊎ (t < u)) → ⊥
      by u below sought (inl e) = not_here (subst Sought e sought)
      by u below sought (inr (inl l)) = passed u l sought
      by u below sought (inr (inr l)) = beyond (Some t) next is u (grind (arith, nat_tests, l)) below sought

-- and each step goes up
pub walk_rises : (s : Federation) (t : ℕ) (next : Option ℕ) → next ≡ open_above s (Some t) → t < 4294967296 → room next < room (Some t)
walk_rises s t next is few = by next (subst (IsLeast (open_test s (Some t))) (sym is) (open_least s (Some t)))
  where
    by : (o : Option ℕ) → IsLeast (open_test s (Some t)) o → room o < 4294967296 - t
    by None least = omega (arith, few)
    by (Some u) least = let above = test_above s (Some t) u least.0 in let over : t < u = grind (arith, nat_tests, above) in omega (arith, few, over)

-- ---- what is sought is open

yes_held : (o : Option Entry) (m : ℕ) → lacks_yes o m ≡ true → is_some o ≡ true
yes_held None m e = absurd (let z : false ≡ true = e in cc)
yes_held (Some x) m e = refl

ack_held : (o : Option Entry) (m : ℕ) → lacks_ack o m ≡ true → is_some o ≡ true
ack_held None m e = absurd (let z : false ≡ true = e in cc)
ack_held (Some x) m e = refl

idle_held : (o : Option Entry) → is_idle o ≡ true → is_some o ≡ true
idle_held None e = absurd (let z : false ≡ true = e in cc)
idle_held (Some x) e = refl

vote_held : (o : Option Vote) (c : ℕ) → votes_for o c ≡ true → is_some o ≡ true
vote_held None c e = absurd (let z : false ≡ true = e in cc)
vote_held (Some x) c e = refl

pub enabled_open : (s : Federation) (e : plain.Exchange) → IsEnabled s e → IsOpen s (exchange_txn e)
enabled_open s (Prepares t m c) h = InTable c h.1 (yes_held (look (s.coord c).table t) m (and_parts _ _ h.2).0)
enabled_open s (Votes t m) h = ActiveAt m h.0 (and_parts _ _ h.1).0
enabled_open s (Commits t m c) h = InTable c h.1 (ack_held (look (s.coord c).table t) m h.2)
enabled_open s (Asks t m c) h = VotedAt m h.0 (vote_held (look (s.member m).engine.voted t) c (and_parts _ _ h.2).0)

pub timed_open : (s : Federation) (t : ℕ) (at : Node) → IsNode s at → timer_ends s t at ≡ true → IsOpen s t
timed_open s t (node.Member m) own h = ActiveAt m own h
timed_open s t (node.Coord c) own h = InTable c own (idle_held (look (s.coord c).table t) h)

-- ---- the first exchange, and the first timer

abbrev pub Helped : Federation → ℕ → Type 0
Helped s u = (e : plain.Exchange) × (exchange_txn e ≡ u) × IsEnabled s e

pub helped_open : (s : Federation) (u : ℕ) → Helped s u → IsOpen s u
helped_open s u h = subst (IsOpen s) h.1 (enabled_open s h.0 h.2)

abbrev pub Timed : Federation → ℕ → Type 0
Timed s u = (at : Node) × IsNode s at × (timer_ends s u at ≡ true)

pub timed_opens : (s : Federation) (u : ℕ) → Timed s u → IsOpen s u
timed_opens s u h = timed_open s u h.0 h.1 h.2

pub first_helps : (s : Federation) (t : ℕ) (e : plain.Exchange) → ((u : ℕ) → u < t → Helped s u → ⊥) → IsFirstOf s t e → IsFirstExchange s e
first_helps s t e passed first = record { enabled = first.enabled; others = λ other before h. by other before h }
  where
    by : (other : plain.Exchange) → ExchangeBefore other e → IsEnabled s other → ⊥
    by other (inl l) h = let a = first.about in passed (exchange_txn other) (omega (arith, l, a)) (other, refl, h)
    by other (inr p) h = first.others other (p.0 ∙ first.about) p.1 h

pub first_times : (s : Federation) (t : ℕ) (at : Node) → ((u : ℕ) → u < t → Timed s u → ⊥) → IsFirstAt s t at → IsFirstTimer s t at
first_times s t at passed first =
    record {
      is_node = first.is_node;
      ends = first.ends;
      least = λ u other own h. by u other own h (cases_order t u);
      idle_first = first.idle_first;
      least_member = first.least_member;
    }
  where
    by : (u : ℕ) (other : Node) → IsNode s other → timer_ends s u other ≡ true → (t ≡ u) ⊎ ((t < u) ⊎ (u < t)) → t ≤ u
    by u other own h (inl e) = omega (arith, e)
    by u other own h (inr (inl l)) = omega (arith, l)
    by u other own h (inr (inr l)) = absurd (passed u l (other, own, h))
