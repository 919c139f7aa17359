-- The first exchange that can help is found among candidates that have every busy transaction.
use Rattle.std.proofs.Common.{◌≡◌, ◌⊎◌, inl, inr, ℕ, ◌<◌, ◌≤◌, ◌+◌, Bool, true, false, not, ◌&&◌, ◌||◌, ◌==◌, nat_lt, List, length, take, get_or, Option, None, Some, refl, sym, ap, ◌∙◌, subst, arith}
use Rattle.std.specs.Prelude.{is_some, MatchOption}
use Rattle.std.specs.List.{All, Contains}
use Rattle.std.proofs.lemmas.Bool.{cases_order, eqb-true, eqb-false}
use Rattle.std.proofs.lemmas.Bool.Decides.{nat_tests}
use Rattle.std.proofs.lemmas.List.{take_all}
use Rattle.std.proofs.lemmas.List.Elements.{All-more}
use Rattle.co_state.specs.Table.{look, holds, put, without, is_above, least_where}
use Rattle.co_plain.specs.declared.coord_state.Entry.{Entry}
use Rattle.co_plain.specs.Federation.{Federation}
use Rattle.co_plain.specs.MemberView.{Numbers}
use Rattle.co_plain.specs.Quiet.{Exchange, IsEnabled, IsOpen, InTable, ActiveAt, VotedAt, busy_in, IsBusy, BusyAt, BusyIn}
use Rattle.co_plain.specs.Settling.{exchange_txn, IsFirstExchange}
use Rattle.co_law_base.proofs.Facts.{Facts}
use Rattle.co_law_base.proofs.Lookups.{put_here, put_there, without_there, holds_found}
use Rattle.co_law_settle.proofs.Busy.{enabled_busy}
use Rattle.co_cluster.specs.Readings.{IsFirstOf}
use Rattle.co_cluster.proofs.NotedSets.{IsNext, tabled_next}
use Rattle.co_cluster.proofs.Walks.{first_helps}
use Rattle.co_settle.specs.Busy.{IsKnown, IsLaidIn, HaveBusy}

-- ---- the first that can help

pub not_busy : (s : Federation) (t : ℕ) (b : Bool) → (IsBusy s t → b ≡ true) → b ≡ false → IsBusy s t → ⊥
not_busy s t b tells none h = let z : true ≡ false = sym (tells h) ∙ none in cc

pub not_found : {X : Type 0} (N : Type 0) (S : X → Type 0) (o : Option X) (none : Bool) → is_some o ≡ not none → none ≡ true → MatchOption o N S → N
not_found N S None none is so h = h
not_found N S (Some x) none is so h = absurd (let z : true ≡ false = is ∙ ap not so in cc)

-- ---- what is busy is open

tabled : (o : Option Entry) → busy_in o ≡ true → is_some o ≡ true
tabled None h = h
tabled (Some e) h = refl

pub busy_open : (s : Federation) → Facts s → (t : ℕ) → IsBusy s t → IsOpen s t
busy_open s f t (BusyIn c i h) = InTable c i (tabled (look (s.coord c).table t) h)
busy_open s f t (BusyAt m i h) = by (holds (s.member m).engine.voted t) refl
  where
    by : (v : Bool) → holds (s.member m).engine.voted t ≡ v → IsOpen s t
    by true e = VotedAt m i e
    by false e =
        let mark = holds_found (s.member m).asked t (sym (ap (λ v. v || holds (s.member m).asked t) e) ∙ h) in
        ActiveAt m i ((f.members m).marked t mark.0 mark.1).0

-- ---- they are collected

pub laid_in : (s : Federation) (t : ℕ) (old new : Numbers) → new ≡ put old t tt → IsLaidIn s t old new
laid_in s t old new is =
    record {
      laid = λ h. ap (λ n. holds n t) is ∙ ap is_some (put_here old t tt);
      rest = λ u h. ap (λ n. holds n u) is ∙ by u h (t == u) refl;
    }
  where
    by : (u : ℕ) → holds old u ≡ true → (b : Bool) → (t == u) ≡ b → holds (put old t tt) u ≡ true
    by u h true e = subst (λ v. holds (put old t tt) v ≡ true) (eqb-true t u e) (ap is_some (put_here old t tt))
    by u h false e = ap is_some (put_there old t tt u (eqb-false t u e)) ∙ h

pub left_out : (s : Federation) (t : ℕ) (numbers : Numbers) → (IsBusy s t → ⊥) → IsLaidIn s t numbers numbers
left_out s t numbers none = record { laid = λ h. absurd (none h); rest = λ u h. h }

pub known_more : (s : Federation) (txns : List ℕ) (i t : ℕ) (old new : Numbers) → i < length txns → t ≡ get_or txns i t → All (IsKnown s old) (take i txns) → IsLaidIn s t old new → All (IsKnown s new) (take (i + 1) txns)
known_more s txns i t old new here item known laid =
    All-more (IsKnown s new) txns i t here (λ k d l busy. laid.rest _ (known k d l busy)) (subst (IsKnown s new) item laid.laid)

pub known_all : (s : Federation) (txns : List ℕ) (i : ℕ) (numbers : Numbers) → length txns ≤ i → All (IsKnown s numbers) (take i txns) → All (IsKnown s numbers) txns
known_all s txns i numbers whole known = subst (All (IsKnown s numbers)) (take_all i txns whole) known

pub have_all : (s : Federation) → Facts s → (txns : List ℕ) (numbers : Numbers) → ((t : ℕ) → IsOpen s t → Contains txns t) → All (IsKnown s numbers) txns → HaveBusy s numbers
have_all s f txns numbers open' known t busy =
    let at = open' t (busy_open s f t busy) in
    subst (IsKnown s numbers) at.2 (known at.0 t at.1) busy

-- ---- one that is no longer busy is let go

pub let_gone : (s : Federation) (numbers : Numbers) (t : ℕ) → (IsBusy s t → ⊥) → HaveBusy s numbers → HaveBusy s (without numbers t)
let_gone s numbers t none have u h = by (t == u) refl
  where
    by : (b : Bool) → (t == u) ≡ b → holds (without numbers t) u ≡ true
    by true e = absurd (none (subst (IsBusy s) (sym (eqb-true t u e)) h))
    by false e = ap is_some (without_there numbers t u (eqb-false t u e)) ∙ have u h

-- ---- a walk over them

-- at the next one, or beyond it
abbrev pub IsAhead : Option ℕ → ℕ → Type 0
IsAhead None u = ⊥
IsAhead (Some t) u = t ≤ u

module _ (s : Federation) where
  -- every exchange that can help is of one that is still ahead
  abbrev pub AreAhead : Option ℕ → Type 0
  AreAhead next = (e : Exchange) → IsEnabled s e → IsAhead next (exchange_txn e)

  not_passed : (numbers : Numbers) (after next : Option ℕ) → IsNext (holds numbers) after next → (u : ℕ) → is_above after u ≡ true → holds numbers u ≡ true → IsAhead next u
  not_passed numbers after None least u above held = let z : true ≡ false = sym (λ i. above i && held i) ∙ least u in cc
  not_passed numbers after (Some t) least u above held = by (cases_order t u)
    where
      by : (t ≡ u) ⊎ ((t < u) ⊎ (u < t)) → t ≤ u
      by (inl e) = omega (arith, e)
      by (inr (inl l)) = omega (arith, l)
      by (inr (inr l)) = absurd (let z : true ≡ false = sym (λ i. above i && held i) ∙ least.1 u l in cc)

  pub ahead_starts : (numbers : Numbers) (next : Option ℕ) → next ≡ least_where (λ u e. is_above None u) numbers → HaveBusy s numbers → AreAhead next
  ahead_starts numbers next is have e h =
      not_passed numbers None next (subst (IsNext (holds numbers) None) (sym is) (tabled_next numbers None)) (exchange_txn e) refl (have (exchange_txn e) (enabled_busy s e h))

  pub ahead_goes_on : (numbers : Numbers) (t : ℕ) (next : Option ℕ) → next ≡ least_where (λ u e. is_above (Some t) u) numbers → HaveBusy s numbers → AreAhead (Some t) →
      ((e : Exchange) → exchange_txn e ≡ t → IsEnabled s e → ⊥) → AreAhead next
  ahead_goes_on numbers t next is have ahead none e h =
      not_passed numbers (Some t) next (subst (IsNext (holds numbers) (Some t)) (sym is) (tabled_next numbers (Some t))) (exchange_txn e) (above (cases_order t (exchange_txn e))) (have (exchange_txn e) (enabled_busy s e h))
    where
      above : (t ≡ exchange_txn e) ⊎ ((t < exchange_txn e) ⊎ (exchange_txn e < t)) → nat_lt t (exchange_txn e) ≡ true
      above (inl q) = absurd (none e (sym q) h)
      above (inr (inl l)) = grind (arith, nat_tests, l)
      above (inr (inr l)) = let a = ahead e h in absurd (omega (arith, a, l))

  pub first_ahead : (t : ℕ) (e : Exchange) → AreAhead (Some t) → IsFirstOf s t e → IsFirstExchange s e
  first_ahead t e ahead first = first_helps s t e (λ u l h. let a = ahead h.0 h.2 in let q = h.1 in absurd (omega (arith, a, q, l))) first
