-- Who was told of operations at a member and is not active there never votes there again: an operation or a vote finds fewer kept
-- than told.
use Rattle.std.proofs.Common.{◌≡◌, ℕ, Bool, true, false, ◌==◌, ◌≤◌, Option, None, Some, refl, sym, ap, ◌∙◌, subst, arith}
use Rattle.std.specs.Option.{is_some}
use Rattle.std.proofs.lemmas.Bool.{eqb-true, eqb-false}
use Rattle.co_base.specs.declared.op.Op.{Op}
use Rattle.co_serial.specs.SerialRun.{with_at}
use Rattle.co_state.specs.declared.engine_state.Vote.{Vote}
use Rattle.co_state.specs.Changes.{sets_of}
use Rattle.co_state.specs.EngineState.{operations_of}
use Rattle.co_state.specs.Effects.{with_operation, after_cast, install_vote}
use Rattle.co_state.specs.Table.{look, holds}
use Rattle.co_plain.specs.declared.member_state.MemberState.{MemberState}
use Rattle.co_plain.specs.declared.session.Session.{Session}
use Rattle.co_plain.specs.Numbers.{counted}
use Rattle.co_plain.specs.LocalCommit.{local_coord}
use Rattle.co_plain.specs.MemberStep.{with_engine}
use Rattle.co_plain.specs.Sessions.{count_at}
use Rattle.co_plain.specs.Federation.{Federation, with_member}
use Rattle.co_plain.specs.Decisions.{told_of}
use Rattle.co_plain.specs.Moves.{Move, Operate, MarkAsked, Cast, DropActive, DropVoted, Install, CommitLocally, CrashMember, RestartMember, ArmMember, CloseMemberSpare, FillMemberSpare, RecordYes, RecordAck, AskEnd, Guard, effect, entered_reply, marked_over, record_yes, record_ack, cast_state, install_state, local_state}
use Rattle.co_plain.specs.Step.{disarmed}
use Rattle.co_law_base.proofs.Carrying.{at_each, at_here}
use Rattle.co_law_base.proofs.Facts.{Facts}
use Rattle.co_law_base.proofs.Lookups.{put_here, put_there, without_here, look_none, holds_found}
use Rattle.co_law_moves.proofs.MoveOnward.{move_onward}
use Rattle.co_law_moves.proofs.Onward.{nothing_kept, absent_votes, none_without}

pub record Spent (t m : ℕ) (s : Federation) : Type 0 where
  pub told : 1 ≤ count_at (told_of s t) m
  pub idle : holds (s.member m).engine.active t ≡ false

module _ (t m : ℕ) (s : Federation) (f : Facts s) (d : Spent t m s) where
  abbrev IsIdle : MemberState → Type 0
  IsIdle x = holds x.engine.active t ≡ false

  at_member : (k : ℕ) (x : MemberState) → (k ≡ m → IsIdle x) → IsIdle (with_at s.member k x m)
  at_member k x new = at_each (λ j y. j ≡ m → IsIdle y) s.member k x new (λ j q. subst (λ i. IsIdle (s.member i)) (sym q) d.idle) m refl

  mine : (k : ℕ) → k ≡ m → IsIdle (s.member k)
  mine k e = subst (λ i. IsIdle (s.member i)) (sym e) d.idle

  told_there : (k : ℕ) → k ≡ m → 1 ≤ count_at (told_of s t) k
  told_there k e = subst (λ i. 1 ≤ count_at (told_of s t) i) (sym e) d.told

  operates : (u k : ℕ) (op : Op) → Guard s (Operate u k op) → k ≡ m → IsIdle (with_engine (s.member k) (with_operation (s.member k).engine u op))
  operates u k op h e = by (u == t) refl
    where
      by : (b : Bool) → (u == t) ≡ b → holds (with_operation (s.member k).engine u op).active t ≡ false
      by true q =
          let same : u ≡ t = eqb-true u t q in
          let none : 0 ≡ count_at (told_of s t) k =
          sym (nothing_kept (s.member k).engine u (ap (holds (s.member k).engine.active) same ∙ mine k e)) ∙ h.1 ∙ ap (λ j. count_at (told_of s j) k) same in
          let some = told_there k e in
          absurd (omega (arith, none, some))
      by false q = ap is_some (put_there (s.member k).engine.active u _ t (eqb-false u t q)) ∙ mine k e

  -- it never votes
  pub casts_not : (u k c n : ℕ) → Guard s (Cast u k c n) → k ≡ m → u ≡ t → ⊥
  casts_not u k c n h e same =
      let p = f.sent.prepares_count u c k n h.0 in
      absent_votes (s.member k).engine u n h.1 p.1 (ap (holds (s.member k).engine.active) same ∙ mine k e)

  pub locally_not : (u k : ℕ) → Guard s (CommitLocally u k) → k ≡ m → u ≡ t → ⊥
  locally_not u k h e same = absent_votes (s.member k).engine u (count_at (told_of s u) k) h.3 h.2 (ap (holds (s.member k).engine.active) same ∙ mine k e)

  installs : (u k : ℕ) → Guard s (Install u k) → k ≡ m → IsIdle (install_state (s.member k) u)
  installs u k h e = let found = holds_found (s.member k).engine.voted u h.0 in ap (λ o. holds (install_vote (s.member k).engine u o).active t) found.1 ∙ mine k e

  locally : (u k n : ℕ) → k ≡ m → IsIdle (local_state (s.member k) u n)
  locally u k n e =
      ap (λ o. holds (install_vote (after_cast (s.member k).engine u local_coord (counted n)) u o).active t)
      (put_here (s.member k).engine.voted u (record { coord = local_coord; count = counted n; sets = sets_of (operations_of (s.member k).engine u) }))
      ∙ none_without (s.member k).engine.active u t (mine k e)

  idle_after : (move : Move) → Guard s move → IsIdle ((effect s move).member m)
  idle_after (Operate u k op) h = by (look s.sessions u)
    where
      by : (z : Option Session) → IsIdle ((with_member (entered_reply s u k op z) k (with_engine (s.member k) (with_operation (s.member k).engine u op))).member m)
      by None = at_member k _ (operates u k op h)
      by (Some session) = at_member k _ (operates u k op h)
  idle_after (CommitLocally u k) h = by (look s.sessions u)
    where
      by : (z : Option Session) → IsIdle ((with_member (marked_over s u z) k (local_state (s.member k) u (count_at (told_of s u) k))).member m)
      by None = at_member k _ (locally u k (count_at (told_of s u) k))
      by (Some session) = at_member k _ (locally u k (count_at (told_of s u) k))
  idle_after (Cast u k c n) h = at_member k (cast_state (s.member k) u c n) (λ e. none_without (s.member k).engine.active u t (mine k e))
  idle_after (Install u k) h = at_member k (install_state (s.member k) u) (installs u k h)
  idle_after (DropActive u k) h = at_member k _ (λ e. none_without (s.member k).engine.active u t (mine k e))
  idle_after (DropVoted u k) h = at_member k _ (λ e. none_without (s.member k).engine.active u t (mine k e))
  idle_after (CrashMember k) h = at_member k _ (λ e. ap is_some (look_none t))
  idle_after (FillMemberSpare k) h = at_member k _ (mine k)
  idle_after (MarkAsked u k c n) h = at_member k _ (mine k)
  idle_after (RestartMember k) h = at_member k _ (mine k)
  idle_after (ArmMember k stop) h = at_member k _ (mine k)
  idle_after (CloseMemberSpare k closed) h = at_member k _ (mine k)
  idle_after (RecordYes u c k) h = subst (λ z. IsIdle (z m)) (sym (ap (λ z. (record_yes s u c k z).member) h.2)) d.idle
  idle_after (RecordAck u c k) h = subst (λ z. IsIdle (z m)) (sym (ap (λ z. (record_ack s u c k z).member) h.2)) d.idle
  idle_after (AskEnd u) h = by (look s.sessions u)
    where
      by : (z : Option Session) → IsIdle ((marked_over s u z).member m)
      by None = d.idle
      by (Some session) = d.idle
  idle_after _ h = d.idle

  pub spent_after : (move : Move) → Guard s move → Spent t m (effect s move)
  spent_after move h =
      record {
        told = let o = (move_onward s f move h).counts t m in let some = d.told in omega (arith, o, some);
        idle = idle_after move h;
      }

pub spent_unarmed : (t m : ℕ) (s : Federation) → Spent t m s → Spent t m (disarmed s)
spent_unarmed t m s d = record { told = d.told; idle = d.idle }

-- a vote, and a local decision, spends it
pub cast_spends : (s : Federation) → Facts s → (t m c n : ℕ) → Guard s (Cast t m c n) → Spent t m (effect s (Cast t m c n))
cast_spends s f t m c n h =
    let p = f.sent.prepares_count t c m n h.0 in
    record {
      told = subst (λ k. 1 ≤ k) p.0 p.1;
      idle = ap (λ y. holds y.engine.active t) (at_here s.member m (cast_state (s.member m) t c n)) ∙ ap is_some (without_here (s.member m).engine.active t);
    }

pub local_spends : (s : Federation) → Facts s → (t m : ℕ) → Guard s (CommitLocally t m) → Spent t m (effect s (CommitLocally t m))
local_spends s f t m h =
    record {
      told = let o = (move_onward s f (CommitLocally t m) h).counts t m in let some = h.2 in omega (arith, o, some);
      idle = by (look s.sessions t);
    }
  where
    x : MemberState
    x = local_state (s.member m) t (count_at (told_of s t) m)

    vote : Vote
    vote = record { coord = local_coord; count = counted (count_at (told_of s t) m); sets = sets_of (operations_of (s.member m).engine t) }

    here : holds x.engine.active t ≡ false
    here =
        ap (λ o. holds (install_vote (after_cast (s.member m).engine t local_coord (counted (count_at (told_of s t) m))) t o).active t) (put_here (s.member m).engine.voted t vote)
        ∙ ap is_some (without_here (s.member m).engine.active t)

    by : (z : Option Session) → holds ((with_member (marked_over s t z) m x).member m).engine.active t ≡ false
    by None = ap (λ y. holds y.engine.active t) (at_here s.member m x) ∙ here
    by (Some session) = ap (λ y. holds y.engine.active t) (at_here s.member m x) ∙ here
