-- A member's kind stays.
use Rattle.std.proofs.Common.{◌≡◌, ℕ, Option, None, Some, refl, ap}
use Rattle.co_serial.specs.SerialRun.{with_at}
use Rattle.co_state.specs.Table.{look}
use Rattle.co_state.specs.Effects.{with_operation, after_cast}
use Rattle.co_plain.specs.declared.member_state.MemberState.{MemberState}
use Rattle.co_plain.specs.declared.session.Session.{Session}
use Rattle.co_plain.specs.Numbers.{counted}
use Rattle.co_plain.specs.LocalCommit.{local_coord}
use Rattle.co_plain.specs.MemberStep.{with_engine}
use Rattle.co_plain.specs.Sessions.{count_at}
use Rattle.co_plain.specs.Federation.{Federation}
use Rattle.co_plain.specs.Decisions.{told_of}
use Rattle.co_plain.specs.Moves.{Move, Operate, MarkAsked, Cast, DropActive, DropVoted, Install, CommitLocally, CrashMember, RestartMember, ArmMember, CloseMemberSpare, FillMemberSpare, Begin, Collect, RecordYes, Decide, Leave, RecordAck, End, CrashCoord, RestartCoord, ArmCoord, CloseCoordSpare, FillCoordSpare, BeginLocal, AskEnd, Send, Guard, effect, entered_reply, marked_over, record_yes, record_ack, install_state, local_state}
use Rattle.co_record.specs.declared.record.Record.TheVariants as log
use Rattle.co_plain.specs.LogWrite.{with_filled_spare, with_spare, with_stop, with_waiting, generation_of}
use Rattle.co_plain.specs.Numbers.{next_generation}
use Rattle.co_plain.specs.MemberLog.{member_spare}
use Rattle.co_plain.specs.Member.{with_mark}
use Rattle.co_plain.specs.Moves.{restarted}
use Rattle.co_plain.specs.MemberStep.{with_log, dropped, member_down}
use Rattle.co_plain.specs.Moves.{cast_state}
use Rattle.co_law_base.proofs.Carrying.{at_each}
use Rattle.co_law_moves.proofs.Standings.{install_kind}
use Rattle.co_law_runs.proofs.Acts.{Act, Moves, Disarms, after_act, act_guard}

abbrev pub SameKinds : Federation → Federation → Type 0
SameKinds s z = (m : ℕ) → (z.member m).engine.kind ≡ (s.member m).engine.kind

module _ (s : Federation) where
  one : (k : ℕ) (x : MemberState) → x.engine.kind ≡ (s.member k).engine.kind → (m : ℕ) → (with_at s.member k x m).engine.kind ≡ (s.member m).engine.kind
  one k x e m = at_each (λ j y. y.engine.kind ≡ (s.member j).engine.kind) s.member k x e (λ j. refl) m

  move_kinds : (move : Move) → Guard s move → SameKinds s (effect s move)
  move_kinds (Operate v k o) g m = by (look s.sessions v)
    where
      by : (z : Option Session) → (with_at (entered_reply s v k o z).member k (with_engine (s.member k) (with_operation (s.member k).engine v o)) m).engine.kind ≡ (s.member m).engine.kind
      by None = one k (with_engine (s.member k) (with_operation (s.member k).engine v o)) refl m
      by (Some session) = one k (with_engine (s.member k) (with_operation (s.member k).engine v o)) refl m
  move_kinds (CommitLocally v k) g m = by (look s.sessions v)
    where
      same : (local_state (s.member k) v (count_at (told_of s v) k)).engine.kind ≡ (s.member k).engine.kind
      same = install_kind (after_cast (s.member k).engine v local_coord (counted (count_at (told_of s v) k))) v (look (after_cast (s.member k).engine v local_coord (counted (count_at (told_of s v) k))).voted v)

      by : (z : Option Session) → (with_at (marked_over s v z).member k (local_state (s.member k) v (count_at (told_of s v) k)) m).engine.kind ≡ (s.member m).engine.kind
      by None = one k (local_state (s.member k) v (count_at (told_of s v) k)) same m
      by (Some session) = one k (local_state (s.member k) v (count_at (told_of s v) k)) same m
  move_kinds (Install v k) g m = one k (install_state (s.member k) v) (install_kind (s.member k).engine v (look (s.member k).engine.voted v)) m
  move_kinds (AskEnd v) g m = by (look s.sessions v)
    where
      by : (z : Option Session) → ((marked_over s v z).member m).engine.kind ≡ (s.member m).engine.kind
      by None = refl
      by (Some session) = refl
  move_kinds (RecordYes v c k) g m = ap (λ o. ((record_yes s v c k o).member m).engine.kind) g.2
  move_kinds (RecordAck v c k) g m = ap (λ o. ((record_ack s v c k o).member m).engine.kind) g.2
  move_kinds (MarkAsked v k c n) g m = one k (with_mark (s.member k) v c n) refl m
  move_kinds (Cast v k c n) g m = one k (cast_state (s.member k) v c n) refl m
  move_kinds (DropActive v k) g m = one k (dropped (s.member k) v) refl m
  move_kinds (DropVoted v k) g m = one k (with_log (dropped (s.member k) v) (with_waiting (s.member k).log (log.Abort v))) refl m
  move_kinds (CrashMember k) g m = one k (member_down (s.member k) (s.member k).log) refl m
  move_kinds (RestartMember k) g m = one k (restarted (s.member k)) refl m
  move_kinds (ArmMember k stop) g m = one k (with_log (s.member k) (with_stop (s.member k).log stop)) refl m
  move_kinds (CloseMemberSpare k closed) g m = one k (with_log (s.member k) (with_spare (s.member k).log closed)) refl m
  move_kinds (FillMemberSpare k) g m = one k (with_log (s.member k) (with_filled_spare (s.member k).log (member_spare k (s.member k) (next_generation (generation_of (s.member k).log.stable))))) refl m
  move_kinds (Begin v c) g m = refl
  move_kinds (Collect v c) g m = refl
  move_kinds (Decide v c) g m = refl
  move_kinds (Leave v c) g m = refl
  move_kinds (End v c) g m = refl
  move_kinds (CrashCoord c) g m = refl
  move_kinds (RestartCoord c) g m = refl
  move_kinds (ArmCoord c stop) g m = refl
  move_kinds (CloseCoordSpare c closed) g m = refl
  move_kinds (FillCoordSpare c) g m = refl
  move_kinds (BeginLocal v k) g m = refl
  move_kinds (Send note) g m = refl

pub act_kinds : (s : Federation) (a : Act) → act_guard s a → SameKinds s (after_act s a)
act_kinds s (Moves move) g = move_kinds s move g
act_kinds s Disarms g = λ m. refl
