-- A node refuses operations alone, and leaves its state where it does.
use Rattle.std.proofs.Common.{ℕ, Bool, true, false, not, ◌&&◌, ◌==◌, if◌then◌else◌, List, [], ◌∷◌, Option, None, Some, refl}
use Rattle.co_base.specs.declared.op.Op.{Op}
use Rattle.co_base.specs.declared.part.Part.{Part}
use Rattle.co_base.specs.Limits.{most_operations}
use Rattle.co_message.specs.declared.answer.Answer.{Answer}
use Rattle.co_message.specs.declared.answer.Answer.TheVariants as answer
use Rattle.co_message.specs.declared.answer.Cause.TheVariants as cause
use Rattle.co_message.specs.declared.message.Message.{Message}
use Rattle.co_message.specs.declared.message.Message.TheVariants as message
use Rattle.co_record.specs.declared.record.Record.{Record}
use Rattle.co_record.specs.declared.record.Record.TheVariants as log
use Rattle.co_frame.specs.Gate.{batch_is_stable}
use Rattle.co_state.specs.declared.verdict.Verdict.{Verdict}
use Rattle.co_state.specs.declared.verdict.Verdict.TheVariants.{LostOperations, StaleRead, HeldBy, VoteYes}
use Rattle.co_state.specs.Table.{look, holds, put, without}
use Rattle.co_state.specs.Changes.{sets_of}
use Rattle.co_state.specs.EngineState.{operations_of}
use Rattle.co_state.specs.LockRule.{lock_blocker}
use Rattle.co_state.specs.VotingRule.{vote_of, kept_count}
use Rattle.co_plain.specs.declared.coord_state.CoordState.{CoordState}
use Rattle.co_plain.specs.declared.coord_state.Entry.{Entry}
use Rattle.co_plain.specs.declared.coord_state.Entry.TheVariants as entry
use Rattle.co_plain.specs.declared.coord_step.CoordStep.{CoordStep}
use Rattle.co_plain.specs.declared.member_state.AskedMark.{AskedMark}
use Rattle.co_plain.specs.declared.member_state.MemberState.{MemberState}
use Rattle.co_plain.specs.declared.member_step.MemberStep.{MemberStep}
use Rattle.co_plain.specs.declared.outcome.Outcome.{Outcome}
use Rattle.co_plain.specs.declared.outcome.Outcome.TheVariants.{Completes, StopsAt}
use Rattle.co_plain.specs.Numbers.{counted, first_lacking, has_number, next_generation}
use Rattle.co_plain.specs.LogWrite.{outcome_of, generation_of}
use Rattle.co_plain.specs.MemberStep.{says, standing_by, stopped_member, forced_by, force_member}
use Rattle.co_plain.specs.Member.{unless_blocked, member_op, prepare_record, voted_state, installed_state, vote_by, vote_on, with_mark, prepare_by, member_prepare, vote_where_asked, vote_again_by, member_vote, commit_by, abort_by, member_decide, timer_by, member_timer, ask_by, member_ask}
use Rattle.co_plain.specs.MemberLog.{stopped_fill, fill_by, close_by, checkpoint_by, member_checkpoint, restart_by, member_restart}
use Rattle.co_plain.specs.LocalCommit.{local_coord, local_commit_by, member_local_commit, local_abort_by, member_local_abort}
use Rattle.co_plain.specs.CoordStep.{coord_says, has_part, members_of, with_table, stopped_coord, coord_forced_by, force_coord}
use Rattle.co_plain.specs.Coordinator.{ask_commit, commit_entry, coord_commit, aborts, abort_entry, coord_abort, waits, decisions_to, decided_by, yes_entry, no_entry, coord_vote, ask_entry, coord_ask, ended_by, ack_entry, coord_ack, timer_entry, coord_timer, resend_entry, coord_resend}
use Rattle.co_plain.specs.CoordLog.{coord_stopped_fill, coord_fill_by, coord_close_by, coord_checkpoint_by, coord_checkpoint, coord_restart_by, coord_restart}
use Rattle.co_law.specs.Refusals.{IsRefusal}
use Rattle.co_law.proofs.Unchanged.{LeavesMember}

-- where a member refuses, it leaves its state
abbrev pub MemberRefuses : MemberState → MemberStep → Type 0
MemberRefuses x did = IsRefusal did.answer → LeavesMember x did

-- whatever else a node does is no refusal
abbrev pub IsAdmitted : MemberStep → Type 0
IsAdmitted did = IsRefusal did.answer → ⊥

abbrev pub CoordAdmits : CoordStep → Type 0
CoordAdmits did = IsRefusal did.answer → ⊥

module _ (x : MemberState) where
  pub refuses_op : (t carried : ℕ) (op : Op) → MemberRefuses x (member_op x t carried op)
  refuses_op t carried op = kept (kept_count x.engine t == carried)
    where
      free : (o : Option ℕ) → MemberRefuses x (unless_blocked x t op o)
      free (Some u) r = record { state = refl; marks = refl; sent = refl; reply = refl }
      free None r = absurd r

      room : (b : Bool) → MemberRefuses x (if b then says x answer.TooMany else unless_blocked x t op (lock_blocker x.engine t op))
      room true r = record { state = refl; marks = refl; sent = refl; reply = refl }
      room false r = free (lock_blocker x.engine t op) r

      kept : (b : Bool) → MemberRefuses x (if b
          then (if carried == most_operations then says x answer.TooMany else unless_blocked x t op (lock_blocker x.engine t op))
          else says x (answer.Gone (counted (kept_count x.engine t)) (counted carried)))
      kept true r = room (carried == most_operations) r
      kept false r = record { state = refl; marks = refl; sent = refl; reply = refl }

  -- a forced write is never a refusal
  forced : (m : ℕ) (next : MemberState) (batch : List Record) (a : Answer) (note : Option Message) → (IsRefusal a → ⊥) → IsAdmitted (force_member m next batch a note)
  forced m next batch a note n = by (outcome_of next.log.armed 4)
    where
      stopped : (call : ℕ) (b : Bool) → IsAdmitted (stopped_member m next call b batch)
      stopped call true r = r
      stopped call false r = r

      by : (o : Outcome) → IsAdmitted (forced_by m next batch a note o)
      by Completes r = n r
      by (StopsAt call leaves) r = stopped call (batch_is_stable call leaves) r

  votes_on : (y : MemberState) (m t coord count : ℕ) → IsAdmitted (vote_on m y t coord count)
  votes_on y m t coord count = by (vote_of y.engine t count)
    where
      by : (v : Verdict) → IsAdmitted (vote_by m y t coord count v)
      by LostOperations r = r
      by (StaleRead key) r = r
      by (HeldBy k) r = r
      by VoteYes r =
          forced m (voted_state y t coord count) (prepare_record t coord count (sets_of (operations_of y.engine t)) ∷ []) answer.Yes (Some (message.Vote t m coord true)) (λ r. r) r

  pub admits_prepare : (m t coord count : ℕ) → IsAdmitted (member_prepare m x t coord count)
  admits_prepare m t coord count = by (holds x.engine.active t) (holds x.engine.voted t) (holds x.committed t)
    where
      by : (a v c : Bool) → IsAdmitted (prepare_by m x t coord count (standing_by a v c))
      by true v c r = votes_on (with_mark x t coord count) m t coord count r
      by false true c r = r
      by false false true r = r
      by false false false r = votes_on x m t coord count r

  pub admits_decision : (m t coord : ℕ) (commit : Bool) → IsAdmitted (member_decide m x t coord commit)
  admits_decision m t coord true = by (holds x.engine.active t) (holds x.engine.voted t) (holds x.committed t)
    where
      by : (a v c : Bool) → IsAdmitted (commit_by m x t coord (standing_by a v c))
      by true v c r = r
      by false true c r = forced m (installed_state x t) (log.Commit t [] ∷ []) answer.Installed (Some (message.Ack t m coord)) (λ r. r) r
      by false false true r = r
      by false false false r = r
  admits_decision m t coord false = by (holds x.engine.active t) (holds x.engine.voted t) (holds x.committed t)
    where
      by : (a v c : Bool) → IsAdmitted (abort_by x t (standing_by a v c))
      by true v c r = r
      by false true c r = r
      by false false true r = r
      by false false false r = r

  pub admits_vote : (m t : ℕ) → IsAdmitted (member_vote m x t)
  admits_vote m t = by (holds x.engine.active t) (holds x.engine.voted t) (holds x.committed t)
    where
      asked : (o : Option AskedMark) → IsAdmitted (vote_where_asked m x t o)
      asked None r = r
      asked (Some mark) r = votes_on x m t mark.coord mark.count r

      by : (a v c : Bool) → IsAdmitted (vote_again_by m x t (standing_by a v c))
      by true v c r = asked (look x.asked t) r
      by false true c r = r
      by false false true r = r
      by false false false r = r

  pub admits_timer : (t : ℕ) → IsAdmitted (member_timer x t)
  admits_timer t = by (holds x.engine.active t) (holds x.engine.voted t) (holds x.committed t)
    where
      by : (a v c : Bool) → IsAdmitted (timer_by x t (standing_by a v c))
      by true v c r = r
      by false true c r = r
      by false false true r = r
      by false false false r = r

  pub admits_question : (m t : ℕ) → IsAdmitted (member_ask m x t)
  admits_question m t = by (holds x.engine.active t) (holds x.engine.voted t) (holds x.committed t)
    where
      by : (a v c : Bool) → IsAdmitted (ask_by m x t (standing_by a v c))
      by true v c r = r
      by false true c r = r
      by false false true r = r
      by false false false r = r

  pub admits_checkpoint : (m : ℕ) → IsAdmitted (member_checkpoint m x)
  admits_checkpoint m = by x.log.spare_closed
    where
      closed : (o : Outcome) → IsAdmitted (close_by x o)
      closed Completes r = r
      closed (StopsAt call leaves) r = r

      stopped : (generation call : ℕ) (b : Bool) → IsAdmitted (stopped_fill m x generation call b)
      stopped generation call true r = r
      stopped generation call false r = r

      filled : (generation : ℕ) (o : Outcome) → IsAdmitted (fill_by m x generation o)
      filled generation Completes r = r
      filled generation (StopsAt call leaves) r = stopped generation call (batch_is_stable call leaves) r

      by : (b : Bool) → IsAdmitted (checkpoint_by m x b)
      by false = closed (outcome_of x.log.armed 2)
      by true = filled (next_generation (generation_of x.log.stable)) (outcome_of x.log.armed 4)

  pub admits_restart : IsAdmitted (member_restart x)
  admits_restart = by x.up
    where
      by : (b : Bool) → IsAdmitted (restart_by x b)
      by true r = r
      by false r = r

  pub admits_local_commit : (m t carried : ℕ) → IsAdmitted (member_local_commit m x t carried)
  admits_local_commit m t carried = by (carried == 0)
    where
      granted : (v : Verdict) → IsAdmitted (local_commit_by m x t carried v)
      granted LostOperations r = r
      granted (StaleRead key) r = r
      granted (HeldBy k) r = r
      granted VoteYes r =
          forced m (installed_state (voted_state x t local_coord (counted carried)) t)
          (log.Commit t [] ∷ prepare_record t local_coord (counted carried) (sets_of (operations_of x.engine t)) ∷ []) answer.Committed None (λ r. r) r

      by : (b : Bool) → IsAdmitted (if b then says x answer.Absent else local_commit_by m x t carried (vote_of x.engine t carried))
      by true r = r
      by false r = granted (vote_of x.engine t carried) r

  pub admits_local_abort : (t : ℕ) → IsAdmitted (member_local_abort x t)
  admits_local_abort t = by (holds x.engine.active t) (holds x.engine.voted t) (holds x.committed t)
    where
      by : (a v c : Bool) → IsAdmitted (local_abort_by x t (standing_by a v c))
      by true v c r = r
      by false true c r = r
      by false false true r = r
      by false false false r = r

module _ (y : CoordState) where
  -- a forced write is never a refusal
  coord_forced : (c : ℕ) (next : CoordState) (batch : List Record) (a : Answer) (notes : List Message) → (IsRefusal a → ⊥) → CoordAdmits (force_coord c next batch a notes)
  coord_forced c next batch a notes n = by (outcome_of next.log.armed 4)
    where
      stopped : (call : ℕ) (b : Bool) → CoordAdmits (stopped_coord c next call b batch)
      stopped call true r = r
      stopped call false r = r

      by : (o : Outcome) → CoordAdmits (coord_forced_by c next batch a notes o)
      by Completes r = n r
      by (StopsAt call leaves) r = stopped call (batch_is_stable call leaves) r

  pub admits_commit : (c t : ℕ) (parts : List Part) → CoordAdmits (coord_commit c y t parts)
  admits_commit c t parts = by (look y.table t)
    where
      asked : (ps : List Part) → CoordAdmits (ask_commit c y t ps)
      asked [] r = coord_forced c (with_table y (without y.table t)) (log.Commit t [] ∷ []) answer.Committed [] (λ r. r) r
      asked (p ∷ ps) r = r

      by : (o : Option Entry) → CoordAdmits (commit_entry c y t parts o)
      by None r = r
      by (Some entry.Idle) r = asked parts r
      by (Some (entry.Collecting ps yeses)) r = r
      by (Some (entry.Committed ms acks)) r = r

  pub admits_abort : (c t : ℕ) (parts : List Part) → CoordAdmits (coord_abort c y t parts)
  admits_abort c t parts = by (look y.table t)
    where
      by : (o : Option Entry) → CoordAdmits (abort_entry c y t parts o)
      by None r = r
      by (Some entry.Idle) r = r
      by (Some (entry.Collecting ps yeses)) r = r
      by (Some (entry.Committed ms acks)) r = r

  pub admits_coord_vote : (c t m : ℕ) (granted : Bool) → CoordAdmits (coord_vote c y t m granted)
  admits_coord_vote c t m true = by (look y.table t)
    where
      counts : (parts : List Part) (yeses : List ℕ) (lacking : Option ℕ) → CoordAdmits (decided_by c y t parts yeses lacking)
      counts parts yeses (Some k) r = r
      counts parts yeses None r =
          coord_forced c (with_table y (put y.table t (entry.Committed (members_of parts) []))) (log.Commit t (members_of parts) ∷ []) answer.Committed
          (decisions_to c t true (members_of parts)) (λ r. r) r

      counted : (parts : List Part) (yeses : List ℕ) (b : Bool) →
          CoordAdmits (if b then decided_by c y t parts (m ∷ yeses) (first_lacking (members_of parts) (m ∷ yeses)) else waits y parts yeses)
      counted parts yeses true r = counts parts (m ∷ yeses) (first_lacking (members_of parts) (m ∷ yeses)) r
      counted parts yeses false r = r

      by : (o : Option Entry) → CoordAdmits (yes_entry c y t m o)
      by None r = r
      by (Some entry.Idle) r = r
      by (Some (entry.Collecting parts yeses)) r = counted parts yeses (has_part parts m && not (has_number yeses m)) r
      by (Some (entry.Committed ms acks)) r = r
  admits_coord_vote c t m false = by (look y.table t)
    where
      counted : (parts : List Part) (yeses : List ℕ) (b : Bool) → CoordAdmits (if b then aborts c y t cause.Vote parts else waits y parts yeses)
      counted parts yeses true r = r
      counted parts yeses false r = r

      by : (o : Option Entry) → CoordAdmits (no_entry c y t m o)
      by None r = r
      by (Some entry.Idle) r = r
      by (Some (entry.Collecting parts yeses)) r = counted parts yeses (has_part parts m) r
      by (Some (entry.Committed ms acks)) r = r

  pub admits_coord_question : (c t m : ℕ) → CoordAdmits (coord_ask c y t m)
  admits_coord_question c t m = by (look y.table t)
    where
      by : (o : Option Entry) → CoordAdmits (ask_entry c y t m o)
      by None r = r
      by (Some entry.Idle) r = r
      by (Some (entry.Collecting parts yeses)) r = r
      by (Some (entry.Committed ms acks)) r = r

  pub admits_acknowledgement : (t m : ℕ) → CoordAdmits (coord_ack y t m)
  admits_acknowledgement t m = by (look y.table t)
    where
      ended : (ms acks : List ℕ) (lacking : Option ℕ) → CoordAdmits (ended_by y t ms acks lacking)
      ended ms acks (Some k) r = r
      ended ms acks None r = r

      counted : (ms acks : List ℕ) (b : Bool) → CoordAdmits (if b then ended_by y t ms (m ∷ acks) (first_lacking ms (m ∷ acks)) else coord_says y answer.Decided)
      counted ms acks true r = ended ms (m ∷ acks) (first_lacking ms (m ∷ acks)) r
      counted ms acks false r = r

      by : (o : Option Entry) → CoordAdmits (ack_entry y t m o)
      by None r = r
      by (Some entry.Idle) r = r
      by (Some (entry.Collecting parts yeses)) r = r
      by (Some (entry.Committed ms acks)) r = counted ms acks (has_number ms m && not (has_number acks m)) r

  pub admits_coord_timer : (c t : ℕ) → CoordAdmits (coord_timer c y t)
  admits_coord_timer c t = by (look y.table t)
    where
      by : (o : Option Entry) → CoordAdmits (timer_entry c y t o)
      by None r = r
      by (Some entry.Idle) r = r
      by (Some (entry.Collecting parts yeses)) r = r
      by (Some (entry.Committed ms acks)) r = r

  pub admits_resending : (c t : ℕ) → CoordAdmits (coord_resend c y t)
  admits_resending c t = by (look y.table t)
    where
      by : (o : Option Entry) → CoordAdmits (resend_entry c y t o)
      by None r = r
      by (Some entry.Idle) r = r
      by (Some (entry.Collecting parts yeses)) r = r
      by (Some (entry.Committed ms acks)) r = r

  pub admits_coord_checkpoint : (c : ℕ) → CoordAdmits (coord_checkpoint c y)
  admits_coord_checkpoint c = by y.log.spare_closed
    where
      closed : (o : Outcome) → CoordAdmits (coord_close_by y o)
      closed Completes r = r
      closed (StopsAt call leaves) r = r

      stopped : (generation call : ℕ) (b : Bool) → CoordAdmits (coord_stopped_fill c y generation call b)
      stopped generation call true r = r
      stopped generation call false r = r

      filled : (generation : ℕ) (o : Outcome) → CoordAdmits (coord_fill_by c y generation o)
      filled generation Completes r = r
      filled generation (StopsAt call leaves) r = stopped generation call (batch_is_stable call leaves) r

      by : (b : Bool) → CoordAdmits (coord_checkpoint_by c y b)
      by false = closed (outcome_of y.log.armed 2)
      by true = filled (next_generation (generation_of y.log.stable)) (outcome_of y.log.armed 4)

  pub admits_coord_restart : CoordAdmits (coord_restart y)
  admits_coord_restart = by y.up
    where
      by : (b : Bool) → CoordAdmits (coord_restart_by y b)
      by true r = r
      by false r = r
