-- What a member sends names a home.
use Rattle.std.proofs.Common.{◌≡◌, ◌⊎◌, inl, inr, ℕ, Bool, true, false, ◌==◌, if◌then◌else◌, List, [], ◌∷◌, Option, None, Some, refl, sym, ap, ◌∙◌, subst}
use Rattle.std.specs.Option.{is_some}
use Rattle.co_base.specs.declared.op.Op.{Op}
use Rattle.co_base.specs.Limits.{most_operations}
use Rattle.co_message.specs.declared.answer.Answer.{Answer}
use Rattle.co_message.specs.declared.answer.Answer.TheVariants as answer
use Rattle.co_message.specs.declared.message.Message.{Message}
use Rattle.co_message.specs.declared.message.Message.TheVariants as message
use Rattle.co_record.specs.declared.record.Record.{Record}
use Rattle.co_record.specs.declared.record.Record.TheVariants as log
use Rattle.co_frame.specs.Gate.{batch_is_stable}
use Rattle.co_state.specs.declared.engine_state.Vote.{Vote}
use Rattle.co_state.specs.declared.verdict.Verdict.{Verdict}
use Rattle.co_state.specs.declared.verdict.Verdict.TheVariants.{LostOperations, StaleRead, HeldBy, VoteYes}
use Rattle.co_state.specs.Changes.{sets_of}
use Rattle.co_state.specs.EngineState.{operations_of}
use Rattle.co_state.specs.LockRule.{lock_blocker}
use Rattle.co_state.specs.Table.{look, holds}
use Rattle.co_state.specs.VotingRule.{vote_of, kept_count}
use Rattle.co_plain.specs.declared.member_state.AskedMark.{AskedMark}
use Rattle.co_plain.specs.declared.member_state.MemberState.{MemberState}
use Rattle.co_plain.specs.declared.member_step.MemberStep.{MemberStep}
use Rattle.co_plain.specs.declared.outcome.Outcome.{Outcome}
use Rattle.co_plain.specs.declared.outcome.Outcome.TheVariants.{Completes, StopsAt}
use Rattle.co_plain.specs.Numbers.{counted, next_generation}
use Rattle.co_plain.specs.LogWrite.{outcome_of, generation_of}
use Rattle.co_plain.specs.MemberStep.{says, standing_by, stopped_member, forced_by, force_member}
use Rattle.co_plain.specs.Member.{prepare_record, voted_state, installed_state, unless_blocked, member_op, vote_by, vote_on, with_mark, prepare_by, member_prepare, vote_where_asked, vote_again_by, member_vote, commit_by, abort_by, member_decide, timer_by, member_timer, ask_by, member_ask, coord_in, coord_of}
use Rattle.co_plain.specs.MemberLog.{stopped_fill, fill_by, close_by, checkpoint_by, member_checkpoint, restart_by, member_restart}
use Rattle.co_plain.specs.LocalCommit.{local_coord, local_commit_by, member_local_commit, local_abort_by, member_local_abort}
use Rattle.co_plain.specs.Federation.{Federation}
use Rattle.co_plain.specs.Invariants.{Memory}
use Rattle.co_law_base.proofs.Facts.{Facts}
use Rattle.co_law_moves.proofs.Standings.{votes_own}
use Rattle.co_law_moves.proofs.KeptFrom.{belongs_is}
use Rattle.co_law.specs.MessageHomes.{IsHome, Belongs, NamesHome}

-- what one step of a member sends, if anything
abbrev pub MemberNames : Federation → MemberStep → Type 0
MemberNames s did = (note : Message) → did.sent ≡ Some note → NamesHome s note

module _ (s : Federation) where
  pub quiet : (did : MemberStep) → did.sent ≡ None → MemberNames s did
  quiet did e note h = absurd (let z : None ≡ Some note = sym e ∙ h in cc)

  only : (note : Message) → NamesHome s note → (other : Message) → Some note ≡ Some other → NamesHome s other
  only note h other e = let same : note ≡ other = cc in subst (NamesHome s) same h

  forced : (m : ℕ) (next : MemberState) (batch : List Record) (a : Answer) (sent : Option Message) → ((note : Message) → sent ≡ Some note → NamesHome s note) → MemberNames s (force_member m next batch a sent)
  forced m next batch a sent h = by (outcome_of next.log.armed 4)
    where
      stopped : (call : ℕ) (b : Bool) → MemberNames s (stopped_member m next call b batch)
      stopped call true = quiet (stopped_member m next call true batch) refl
      stopped call false = quiet (stopped_member m next call false batch) refl

      by : (o : Outcome) → MemberNames s (forced_by m next batch a sent o)
      by Completes = h
      by (StopsAt call leaves) = stopped call (batch_is_stable call leaves)

  votes : (m : ℕ) (x : MemberState) (t coord count : ℕ) → IsHome s t coord → MemberNames s (vote_on m x t coord count)
  votes m x t coord count home = by (vote_of x.engine t count)
    where
      by : (v : Verdict) → MemberNames s (vote_by m x t coord count v)
      by LostOperations = only (message.Vote t m coord false) home
      by (StaleRead key) = only (message.Vote t m coord false) home
      by (HeldBy u) = quiet (says x (answer.Held u)) refl
      by VoteYes =
          forced m (voted_state x t coord count) (prepare_record t coord count (sets_of (operations_of x.engine t)) ∷ []) answer.Yes (Some (message.Vote t m coord true))
          (only (message.Vote t m coord true) home)

  module _ (f : Facts s) (m : ℕ) where
    -- who is voted is at home where its vote says
    voted_home : (t : ℕ) → holds (s.member m).engine.voted t ≡ true → IsHome s t (coord_of (s.member m) t)
    voted_home t v = Belongs (belongs_is s t (coord_of (s.member m) t) (((f.members m).views Memory).named t (coord_of (s.member m) t) (votes_own s m t v)))

    pub names_prepare : (t coord count : ℕ) → IsHome s t coord → MemberNames s (member_prepare m (s.member m) t coord count)
    names_prepare t coord count home = by (holds (s.member m).engine.active t) (holds (s.member m).engine.voted t) refl (holds (s.member m).committed t)
      where
        by : (a v : Bool) → holds (s.member m).engine.voted t ≡ v → (c : Bool) → MemberNames s (prepare_by m (s.member m) t coord count (standing_by a v c))
        by true v e c = votes m (with_mark (s.member m) t coord count) t coord count home
        by false true e c = only (message.Vote t m (coord_of (s.member m) t) true) (voted_home t e)
        by false false e true = quiet (says (s.member m) answer.Already) refl
        by false false e false = votes m (s.member m) t coord count home

    pub names_decision : (t coord : ℕ) (commit : Bool) → NamesHome s (message.Ack t m coord) → MemberNames s (member_decide m (s.member m) t coord commit)
    names_decision t coord true home = by (holds (s.member m).engine.active t) (holds (s.member m).engine.voted t) (holds (s.member m).committed t)
      where
        by : (a v c : Bool) → MemberNames s (commit_by m (s.member m) t coord (standing_by a v c))
        by true v c = quiet (says (s.member m) answer.Absent) refl
        by false true c = forced m (installed_state (s.member m) t) (log.Commit t [] ∷ []) answer.Installed (Some (message.Ack t m coord)) (only (message.Ack t m coord) home)
        by false false true = only (message.Ack t m coord) home
        by false false false = quiet (says (s.member m) answer.Absent) refl
    names_decision t coord false home = by (holds (s.member m).engine.active t) (holds (s.member m).engine.voted t) (holds (s.member m).committed t)
      where
        by : (a v c : Bool) → MemberNames s (abort_by (s.member m) t (standing_by a v c))
        by true v c = quiet (abort_by (s.member m) t (standing_by true v c)) refl
        by false true c = quiet (abort_by (s.member m) t (standing_by false true c)) refl
        by false false true = quiet (abort_by (s.member m) t (standing_by false false true)) refl
        by false false false = quiet (abort_by (s.member m) t (standing_by false false false)) refl

    -- a verdict that is handed is acknowledged to the coordinator of the vote, or to none
    pub handed_home : (t : ℕ) → NamesHome s (message.Ack t m (coord_of (s.member m) t))
    handed_home t = by (look (s.member m).engine.voted t) refl
      where
        by : (o : Option Vote) → look (s.member m).engine.voted t ≡ o → IsHome s t (coord_of (s.member m) t) ⊎ (coord_of (s.member m) t ≡ 0)
        by None e = inr (ap coord_in e)
        by (Some vote) e = inl (voted_home t (ap is_some e))

    pub names_vote : (t : ℕ) → ((mark : AskedMark) → look (s.member m).asked t ≡ Some mark → IsHome s t mark.coord) → MemberNames s (member_vote m (s.member m) t)
    names_vote t home = by (holds (s.member m).engine.active t) (holds (s.member m).engine.voted t) (holds (s.member m).committed t)
      where
        asked : (o : Option AskedMark) → look (s.member m).asked t ≡ o → MemberNames s (vote_where_asked m (s.member m) t o)
        asked None e = quiet (says (s.member m) answer.Unasked) refl
        asked (Some mark) e = votes m (s.member m) t mark.coord mark.count (home mark e)

        by : (a v c : Bool) → MemberNames s (vote_again_by m (s.member m) t (standing_by a v c))
        by true v c = asked (look (s.member m).asked t) refl
        by false true c = quiet (says (s.member m) answer.Voted) refl
        by false false true = quiet (says (s.member m) answer.Already) refl
        by false false false = quiet (says (s.member m) answer.Absent) refl

    pub names_question : (t : ℕ) → MemberNames s (member_ask m (s.member m) t)
    names_question t = by (holds (s.member m).engine.active t) (holds (s.member m).engine.voted t) refl (holds (s.member m).committed t)
      where
        by : (a v : Bool) → holds (s.member m).engine.voted t ≡ v → (c : Bool) → MemberNames s (ask_by m (s.member m) t (standing_by a v c))
        by true v e c = quiet (says (s.member m) answer.Unvoted) refl
        by false true e c = only (message.Ask t m (coord_of (s.member m) t)) (voted_home t e)
        by false false e true = quiet (says (s.member m) answer.Already) refl
        by false false e false = quiet (says (s.member m) answer.Absent) refl

  -- what sends nothing
  module _ (x : MemberState) where
    pub quiet_timer : (t : ℕ) → MemberNames s (member_timer x t)
    quiet_timer t = by (holds x.engine.active t) (holds x.engine.voted t) (holds x.committed t)
      where
        by : (a v c : Bool) → MemberNames s (timer_by x t (standing_by a v c))
        by true v c = quiet (timer_by x t (standing_by true v c)) refl
        by false true c = quiet (timer_by x t (standing_by false true c)) refl
        by false false true = quiet (timer_by x t (standing_by false false true)) refl
        by false false false = quiet (timer_by x t (standing_by false false false)) refl

    pub quiet_operation : (t carried : ℕ) (o : Op) → MemberNames s (member_op x t carried o)
    quiet_operation t carried o = by (kept_count x.engine t == carried) (carried == most_operations) (lock_blocker x.engine t o)
      where
        by : (kept most : Bool) (b : Option ℕ) →
            MemberNames s (if kept then (if most then says x answer.TooMany else unless_blocked x t o b) else says x (answer.Gone (counted (kept_count x.engine t)) (counted carried)))
        by false most b = quiet (says x (answer.Gone (counted (kept_count x.engine t)) (counted carried))) refl
        by true true b = quiet (says x answer.TooMany) refl
        by true false (Some k) = quiet (unless_blocked x t o (Some k)) refl
        by true false None = quiet (unless_blocked x t o None) refl

    pub quiet_commit : (m t carried : ℕ) → MemberNames s (member_local_commit m x t carried)
    quiet_commit m t carried = by (carried == 0)
      where
        granted : (v : Verdict) → MemberNames s (local_commit_by m x t carried v)
        granted LostOperations = quiet (local_commit_by m x t carried LostOperations) refl
        granted (StaleRead key) = quiet (local_commit_by m x t carried (StaleRead key)) refl
        granted (HeldBy k) = quiet (local_commit_by m x t carried (HeldBy k)) refl
        granted VoteYes =
            forced m (installed_state (voted_state x t local_coord (counted carried)) t)
            (log.Commit t [] ∷ prepare_record t local_coord (counted carried) (sets_of (operations_of x.engine t)) ∷ []) answer.Committed None
            (λ note e. absurd (let z : None ≡ Some note = e in cc))

        by : (b : Bool) → MemberNames s (if b then says x answer.Absent else local_commit_by m x t carried (vote_of x.engine t carried))
        by true = quiet (says x answer.Absent) refl
        by false = granted (vote_of x.engine t carried)

    pub quiet_abort : (t : ℕ) → MemberNames s (member_local_abort x t)
    quiet_abort t = by (holds x.engine.active t) (holds x.engine.voted t) (holds x.committed t)
      where
        by : (a v c : Bool) → MemberNames s (local_abort_by x t (standing_by a v c))
        by true v c = quiet (local_abort_by x t (standing_by true v c)) refl
        by false true c = quiet (local_abort_by x t (standing_by false true c)) refl
        by false false true = quiet (local_abort_by x t (standing_by false false true)) refl
        by false false false = quiet (local_abort_by x t (standing_by false false false)) refl

    pub quiet_restart : MemberNames s (member_restart x)
    quiet_restart = by x.up
      where
        by : (b : Bool) → MemberNames s (restart_by x b)
        by true = quiet (restart_by x true) refl
        by false = quiet (restart_by x false) refl

    pub quiet_checkpoint : (m : ℕ) → MemberNames s (member_checkpoint m x)
    quiet_checkpoint m = by x.log.spare_closed
      where
        stopped : (generation call : ℕ) (b : Bool) → MemberNames s (stopped_fill m x generation call b)
        stopped generation call true = quiet (stopped_fill m x generation call true) refl
        stopped generation call false = quiet (stopped_fill m x generation call false) refl

        fills : (generation : ℕ) (o : Outcome) → MemberNames s (fill_by m x generation o)
        fills generation Completes = quiet (fill_by m x generation Completes) refl
        fills generation (StopsAt call leaves) = stopped generation call (batch_is_stable call leaves)

        closes : (o : Outcome) → MemberNames s (close_by x o)
        closes Completes = quiet (close_by x Completes) refl
        closes (StopsAt call leaves) = quiet (close_by x (StopsAt call leaves)) refl

        by : (b : Bool) → MemberNames s (checkpoint_by m x b)
        by false = closes (outcome_of x.log.armed 2)
        by true = fills (next_generation (generation_of x.log.stable)) (outcome_of x.log.armed 4)
