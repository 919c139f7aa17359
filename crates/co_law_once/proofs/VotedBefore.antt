-- Who stands in an opened log votes no more in this run: it is not begun again.
use Rattle.std.proofs.Common.{◌≡◌, ◌⊎◌, inl, inr, ℕ, true, false, ◌==◌, ◌≤◌, List, Option, None, Some, refl, sym, ap, ◌∙◌, subst, arith}
use Rattle.std.specs.List.{list_any}
use Rattle.std.specs.Option.{is_some}
use Rattle.std.proofs.lemmas.Bool.{and_parts, eqb-true, false_from_ne_true}
use Rattle.co_state.specs.Effects.{with_operation}
use Rattle.co_state.specs.Table.{look, holds}
use Rattle.co_plain.specs.declared.coord_state.Entry.{Entry}
use Rattle.co_plain.specs.declared.coord_state.Entry.TheVariants as entry
use Rattle.co_plain.specs.declared.happening.Happening.{Happening}
use Rattle.co_plain.specs.declared.session.Session.{Session}
use Rattle.co_plain.specs.Decisions.{told_in, told_of}
use Rattle.co_plain.specs.Federation.{Federation, with_member}
use Rattle.co_plain.specs.MemberStep.{with_engine}
use Rattle.co_plain.specs.Moves.{Move, Operate, Cast, CommitLocally, RecordYes, RecordAck, AskEnd, Guard, effect, entered_reply, marked_over, with_decision, local_state, entry_at, record_yes, record_ack}
use Rattle.co_plain.specs.Premises.{AreTrueVerdicts}
use Rattle.co_plain.specs.Sessions.{count_at}
use Rattle.co_plain.specs.Step.{disarmed}
use Rattle.co_law_base.proofs.Facts.{Facts}
use Rattle.co_law_once.specs.Once.{moves_along, forces_vote}
use Rattle.co_law_once.proofs.Forced.{vote_done, vote_never}
use Rattle.co_law_once.proofs.Spending.{Spent, spent_after, spent_unarmed}
use Rattle.co_law_once.proofs.Walking.{run_idle}

-- no move changes which numbers stand in the opened logs
used_stays : (s : Federation) (move : Move) → (effect s move).used ≡ s.used
used_stays s (Operate t m o) = by (look s.sessions t)
  where
    by : (z : Option Session) → (with_member (entered_reply s t m o z) m (with_engine (s.member m) (with_operation (s.member m).engine t o))).used ≡ s.used
    by None = refl
    by (Some session) = refl
used_stays s (CommitLocally t m) = by (look s.sessions t)
  where
    by : (z : Option Session) → (with_decision (with_member (marked_over s t z) m (local_state (s.member m) t (count_at (told_of s t) m))) t).used ≡ s.used
    by None = refl
    by (Some session) = refl
used_stays s (RecordYes t c m) = by (entry_at s t c)
  where
    by : (o : Option Entry) → (record_yes s t c m o).used ≡ s.used
    by None = refl
    by (Some entry.Idle) = refl
    by (Some (entry.Collecting parts yeses)) = refl
    by (Some (entry.Committed members acks)) = refl
used_stays s (RecordAck t c m) = by (entry_at s t c)
  where
    by : (o : Option Entry) → (record_ack s t c m o).used ≡ s.used
    by None = refl
    by (Some entry.Idle) = refl
    by (Some (entry.Collecting parts yeses)) = refl
    by (Some (entry.Committed members acks)) = refl
used_stays s (AskEnd t) = by (look s.sessions t)
  where
    by : (z : Option Session) → (marked_over s t z).used ≡ s.used
    by None = refl
    by (Some session) = refl
used_stays s _ = refl

-- who was told of operations was begun
begun_by_count : (s : Federation) (t m : ℕ) → 1 ≤ count_at (told_of s t) m → holds s.sessions t ≡ true
begun_by_count s t m h = by (look s.sessions t) h
  where
    by : (o : Option Session) → 1 ≤ count_at (told_in o) m → is_some o ≡ true
    by None l = absurd (omega (arith, l))
    by (Some session) l = refl

module _ (t m : ℕ) where
  -- it voted here, or stands in an opened log
  abbrev IsPast : Federation → Type 0
  IsPast s = Spent t m s ⊎ (holds s.used t ≡ true)

  past_done : (s : Federation) → Facts s → (move : Move) → Guard s move → forces_vote t m move ≡ true → IsPast (effect s move)
  past_done s f move g h = inl (vote_done t m s f move g h)

  past_stays : (s : Federation) → Facts s → (move : Move) → Guard s move → IsPast s → IsPast (effect s move)
  past_stays s f move g (inl d) = inl (spent_after t m s f d move g)
  past_stays s f move g (inr u) = inr (ap (λ n. holds n t) (used_stays s move) ∙ u)

  past_unarmed : (s : Federation) → IsPast s → IsPast (disarmed s)
  past_unarmed s (inl d) = inl (spent_unarmed t m s d)
  past_unarmed s (inr u) = inr u

  new_alone : {A : Type 0} (s : Federation) → Facts s → holds s.used t ≡ true → (u k : ℕ) → 1 ≤ count_at (told_of s u) k → u ≡ t → A
  new_alone s f h u k l e =
      absurd (let z : true ≡ false = sym h ∙ ap (holds s.used) (sym e) ∙ f.numbers.new u (begun_by_count s u k l) in cc)

  past_never : (s : Federation) → Facts s → (move : Move) → Guard s move → IsPast s → forces_vote t m move ≡ false
  past_never s f move g (inl d) = vote_never t m s f move g d
  past_never s f (Cast u k c n) g (inr h) =
      false_from_ne_true _ (λ e.
      let p = f.sent.prepares_count u c k n g.0 in
      new_alone s f h u k (subst (λ j. 1 ≤ j) p.0 p.1) (eqb-true u t (and_parts (k == m) (u == t) e).1))
  past_never s f (CommitLocally u k) g (inr h) = false_from_ne_true _ (λ e. new_alone s f h u k g.2 (eqb-true u t (and_parts (k == m) (u == t) e).1))
  past_never s f _ g (inr h) = refl

  pub votes_never : (hs : List Happening) (s : Federation) → Facts s → AreTrueVerdicts hs s → holds s.used t ≡ true → list_any (forces_vote t m) (moves_along hs s) ≡ false
  votes_never hs s f v h = run_idle (forces_vote t m) IsPast past_done past_stays past_never past_unarmed hs s f v (inr h)
