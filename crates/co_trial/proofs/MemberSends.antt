-- What a member of the head sends is from it, and an acknowledgement is for the coordinator of the decision.
use Rattle.std.proofs.Common.{◌≡◌, ℕ, Bool, true, false, ◌==◌, if◌then◌else◌, List, [], ◌∷◌, Option, None, Some, refl, sym, ◌∙◌, subst}
use Rattle.co_base.specs.declared.op.Op.{Op}
use Rattle.co_base.specs.Limits.{most_operations}
use Rattle.co_message.specs.declared.answer.Answer.{Answer}
use Rattle.co_message.specs.declared.answer.Answer.TheVariants as answer
use Rattle.co_message.specs.declared.message.Message.{Message}
use Rattle.co_message.specs.declared.message.Message.TheVariants as message
use Rattle.co_record.specs.declared.record.Record.{Record}
use Rattle.co_record.specs.declared.record.Record.TheVariants as log
use Rattle.co_frame.specs.Gate.{batch_is_stable}
use Rattle.co_state.specs.declared.verdict.Verdict.{Verdict}
use Rattle.co_state.specs.declared.verdict.Verdict.TheVariants.{LostOperations, StaleRead, HeldBy, VoteYes}
use Rattle.co_state.specs.Changes.{sets_of}
use Rattle.co_state.specs.EngineState.{operations_of}
use Rattle.co_state.specs.LockRule.{lock_blocker}
use Rattle.co_state.specs.Table.{look, holds}
use Rattle.co_state.specs.VotingRule.{vote_of, kept_count}
use Rattle.co_plain.specs.declared.member_state.AskedMark.{AskedMark}
use Rattle.co_plain.specs.declared.member_state.MemberState.{MemberState}
use Rattle.co_plain.specs.declared.member_step.MemberStep.{MemberStep}
use Rattle.co_plain.specs.declared.outcome.Outcome.{Outcome}
use Rattle.co_plain.specs.declared.outcome.Outcome.TheVariants.{Completes, StopsAt}
use Rattle.co_plain.specs.Numbers.{counted, next_generation, IsAmong}
use Rattle.co_plain.specs.LogWrite.{outcome_of, generation_of}
use Rattle.co_plain.specs.MemberStep.{says, standing_by, stopped_member, forced_by, force_member}
use Rattle.co_plain.specs.Member.{prepare_record, voted_state, installed_state, unless_blocked, member_op, vote_by, vote_on, with_mark, prepare_by, member_prepare, vote_where_asked, vote_again_by, member_vote, commit_by, abort_by, member_decide, timer_by, member_timer, ask_by, member_ask, coord_of}
use Rattle.co_plain.specs.MemberLog.{stopped_fill, fill_by, close_by, checkpoint_by, member_checkpoint, restart_by, member_restart}
use Rattle.co_plain.specs.LocalCommit.{local_coord, local_commit_by, member_local_commit, local_abort_by, member_local_abort}
use Rattle.co_trial.proofs.InHead.{InHead}

-- what one step of a member sends, if anything
abbrev pub MemberSends : ℕ → ℕ → MemberStep → Type 0
MemberSends n k did = (note : Message) → did.sent ≡ Some note → InHead n k note

module _ (n k : ℕ) where
  pub quiet : (did : MemberStep) → did.sent ≡ None → MemberSends n k did
  quiet did e note h = absurd (let z : None ≡ Some note = sym e ∙ h in cc)

  only : (note : Message) → InHead n k note → (other : Message) → Some note ≡ Some other → InHead n k other
  only note h other e = let same : note ≡ other = cc in subst (InHead n k) same h

  forced : (m : ℕ) (next : MemberState) (batch : List Record) (a : Answer) (sent : Option Message) → ((note : Message) → sent ≡ Some note → InHead n k note) → MemberSends n k (force_member m next batch a sent)
  forced m next batch a sent h = by (outcome_of next.log.armed 4)
    where
      stopped : (call : ℕ) (b : Bool) → MemberSends n k (stopped_member m next call b batch)
      stopped call true = quiet (stopped_member m next call true batch) refl
      stopped call false = quiet (stopped_member m next call false batch) refl

      by : (o : Outcome) → MemberSends n k (forced_by m next batch a sent o)
      by Completes = h
      by (StopsAt call leaves) = stopped call (batch_is_stable call leaves)

  votes : (m : ℕ) (x : MemberState) (t coord count : ℕ) → IsAmong m n → MemberSends n k (vote_on m x t coord count)
  votes m x t coord count own = by (vote_of x.engine t count)
    where
      by : (v : Verdict) → MemberSends n k (vote_by m x t coord count v)
      by LostOperations = only (message.Vote t m coord false) own
      by (StaleRead key) = only (message.Vote t m coord false) own
      by (HeldBy u) = quiet (says x (answer.Held u)) refl
      by VoteYes =
          forced m (voted_state x t coord count) (prepare_record t coord count (sets_of (operations_of x.engine t)) ∷ []) answer.Yes (Some (message.Vote t m coord true))
          (only (message.Vote t m coord true) own)

  module _ (m : ℕ) (own : IsAmong m n) (x : MemberState) where
    pub sends_prepare : (t coord count : ℕ) → MemberSends n k (member_prepare m x t coord count)
    sends_prepare t coord count = by (holds x.engine.active t) (holds x.engine.voted t) refl (holds x.committed t)
      where
        by : (a v : Bool) → holds x.engine.voted t ≡ v → (c : Bool) → MemberSends n k (prepare_by m x t coord count (standing_by a v c))
        by true v e c = votes m (with_mark x t coord count) t coord count own
        by false true e c = only (message.Vote t m (coord_of x t) true) own
        by false false e true = quiet (says x answer.Already) refl
        by false false e false = votes m x t coord count own

    pub sends_decision : (t coord : ℕ) (commit : Bool) → InHead n k (message.Ack t m coord) → MemberSends n k (member_decide m x t coord commit)
    sends_decision t coord true home = by (holds x.engine.active t) (holds x.engine.voted t) (holds x.committed t)
      where
        by : (a v c : Bool) → MemberSends n k (commit_by m x t coord (standing_by a v c))
        by true v c = quiet (says x answer.Absent) refl
        by false true c = forced m (installed_state x t) (log.Commit t [] ∷ []) answer.Installed (Some (message.Ack t m coord)) (only (message.Ack t m coord) home)
        by false false true = only (message.Ack t m coord) home
        by false false false = quiet (says x answer.Absent) refl
    sends_decision t coord false home = by (holds x.engine.active t) (holds x.engine.voted t) (holds x.committed t)
      where
        by : (a v c : Bool) → MemberSends n k (abort_by x t (standing_by a v c))
        by true v c = quiet (abort_by x t (standing_by true v c)) refl
        by false true c = quiet (abort_by x t (standing_by false true c)) refl
        by false false true = quiet (abort_by x t (standing_by false false true)) refl
        by false false false = quiet (abort_by x t (standing_by false false false)) refl

    pub sends_vote : (t : ℕ) → MemberSends n k (member_vote m x t)
    sends_vote t = by (holds x.engine.active t) (holds x.engine.voted t) (holds x.committed t)
      where
        asked : (o : Option AskedMark) → look x.asked t ≡ o → MemberSends n k (vote_where_asked m x t o)
        asked None e = quiet (says x answer.Unasked) refl
        asked (Some mark) e = votes m x t mark.coord mark.count own

        by : (a v c : Bool) → MemberSends n k (vote_again_by m x t (standing_by a v c))
        by true v c = asked (look x.asked t) refl
        by false true c = quiet (says x answer.Voted) refl
        by false false true = quiet (says x answer.Already) refl
        by false false false = quiet (says x answer.Absent) refl

    pub sends_question : (t : ℕ) → MemberSends n k (member_ask m x t)
    sends_question t = by (holds x.engine.active t) (holds x.engine.voted t) refl (holds x.committed t)
      where
        by : (a v : Bool) → holds x.engine.voted t ≡ v → (c : Bool) → MemberSends n k (ask_by m x t (standing_by a v c))
        by true v e c = quiet (says x answer.Unvoted) refl
        by false true e c = only (message.Ask t m (coord_of x t)) own
        by false false e true = quiet (says x answer.Already) refl
        by false false e false = quiet (says x answer.Absent) refl

  -- what sends nothing
  module _ (x : MemberState) where
    pub quiet_timer : (t : ℕ) → MemberSends n k (member_timer x t)
    quiet_timer t = by (holds x.engine.active t) (holds x.engine.voted t) (holds x.committed t)
      where
        by : (a v c : Bool) → MemberSends n k (timer_by x t (standing_by a v c))
        by true v c = quiet (timer_by x t (standing_by true v c)) refl
        by false true c = quiet (timer_by x t (standing_by false true c)) refl
        by false false true = quiet (timer_by x t (standing_by false false true)) refl
        by false false false = quiet (timer_by x t (standing_by false false false)) refl

    pub quiet_operation : (t carried : ℕ) (o : Op) → MemberSends n k (member_op x t carried o)
    quiet_operation t carried o = by (kept_count x.engine t == carried) (carried == most_operations) (lock_blocker x.engine t o)
      where
        by : (kept most : Bool) (b : Option ℕ) →
            MemberSends n k (if kept then (if most then says x answer.TooMany else unless_blocked x t o b) else says x (answer.Gone (counted (kept_count x.engine t)) (counted carried)))
        by false most b = quiet (says x (answer.Gone (counted (kept_count x.engine t)) (counted carried))) refl
        by true true b = quiet (says x answer.TooMany) refl
        by true false (Some k) = quiet (unless_blocked x t o (Some k)) refl
        by true false None = quiet (unless_blocked x t o None) refl

    pub quiet_commit : (m t carried : ℕ) → MemberSends n k (member_local_commit m x t carried)
    quiet_commit m t carried = by (carried == 0)
      where
        granted : (v : Verdict) → MemberSends n k (local_commit_by m x t carried v)
        granted LostOperations = quiet (local_commit_by m x t carried LostOperations) refl
        granted (StaleRead key) = quiet (local_commit_by m x t carried (StaleRead key)) refl
        granted (HeldBy k) = quiet (local_commit_by m x t carried (HeldBy k)) refl
        granted VoteYes =
            forced m (installed_state (voted_state x t local_coord (counted carried)) t)
            (log.Commit t [] ∷ prepare_record t local_coord (counted carried) (sets_of (operations_of x.engine t)) ∷ []) answer.Committed None
            (λ note e. absurd (let z : None ≡ Some note = e in cc))

        by : (b : Bool) → MemberSends n k (if b then says x answer.Absent else local_commit_by m x t carried (vote_of x.engine t carried))
        by true = quiet (says x answer.Absent) refl
        by false = granted (vote_of x.engine t carried)

    pub quiet_abort : (t : ℕ) → MemberSends n k (member_local_abort x t)
    quiet_abort t = by (holds x.engine.active t) (holds x.engine.voted t) (holds x.committed t)
      where
        by : (a v c : Bool) → MemberSends n k (local_abort_by x t (standing_by a v c))
        by true v c = quiet (local_abort_by x t (standing_by true v c)) refl
        by false true c = quiet (local_abort_by x t (standing_by false true c)) refl
        by false false true = quiet (local_abort_by x t (standing_by false false true)) refl
        by false false false = quiet (local_abort_by x t (standing_by false false false)) refl

    pub quiet_restart : MemberSends n k (member_restart x)
    quiet_restart = by x.up
      where
        by : (b : Bool) → MemberSends n k (restart_by x b)
        by true = quiet (restart_by x true) refl
        by false = quiet (restart_by x false) refl

    pub quiet_checkpoint : (m : ℕ) → MemberSends n k (member_checkpoint m x)
    quiet_checkpoint m = by x.log.spare_closed
      where
        stopped : (generation call : ℕ) (b : Bool) → MemberSends n k (stopped_fill m x generation call b)
        stopped generation call true = quiet (stopped_fill m x generation call true) refl
        stopped generation call false = quiet (stopped_fill m x generation call false) refl

        fills : (generation : ℕ) (o : Outcome) → MemberSends n k (fill_by m x generation o)
        fills generation Completes = quiet (fill_by m x generation Completes) refl
        fills generation (StopsAt call leaves) = stopped generation call (batch_is_stable call leaves)

        closes : (o : Outcome) → MemberSends n k (close_by x o)
        closes Completes = quiet (close_by x Completes) refl
        closes (StopsAt call leaves) = quiet (close_by x (StopsAt call leaves)) refl

        by : (b : Bool) → MemberSends n k (checkpoint_by m x b)
        by false = closes (outcome_of x.log.armed 2)
        by true = fills (next_generation (generation_of x.log.stable)) (outcome_of x.log.armed 4)
