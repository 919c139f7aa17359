-- A yes that a member sends is its own, of a transaction that it has voted then.
use Rattle.std.proofs.Common.{◌≡◌, ℕ, Bool, true, false, ◌==◌, if◌then◌else◌, List, [], ◌∷◌, Option, None, Some, refl, sym, ap, ◌∙◌}
use Rattle.std.specs.Option.{is_some}
use Rattle.co_base.specs.declared.op.Op.{Op}
use Rattle.co_base.specs.Limits.{most_operations}
use Rattle.co_message.specs.declared.answer.Answer.{Answer}
use Rattle.co_message.specs.declared.answer.Answer.TheVariants as answer
use Rattle.co_message.specs.declared.message.Message.{Message}
use Rattle.co_message.specs.declared.message.Message.TheVariants as message
use Rattle.co_record.specs.declared.record.Record.{Record}
use Rattle.co_record.specs.declared.record.Record.TheVariants as log
use Rattle.co_frame.specs.Gate.{batch_is_stable}
use Rattle.co_state.specs.declared.verdict.Verdict.{Verdict}
use Rattle.co_state.specs.declared.verdict.Verdict.TheVariants.{LostOperations, StaleRead, HeldBy, VoteYes}
use Rattle.co_state.specs.Changes.{sets_of}
use Rattle.co_state.specs.EngineState.{operations_of}
use Rattle.co_state.specs.LockRule.{lock_blocker}
use Rattle.co_state.specs.Table.{look, holds}
use Rattle.co_state.specs.VotingRule.{vote_of, kept_count}
use Rattle.co_plain.specs.declared.member_state.AskedMark.{AskedMark}
use Rattle.co_plain.specs.declared.member_state.MemberState.{MemberState}
use Rattle.co_plain.specs.declared.member_step.MemberStep.{MemberStep}
use Rattle.co_plain.specs.declared.outcome.Outcome.{Outcome}
use Rattle.co_plain.specs.declared.outcome.Outcome.TheVariants.{Completes, StopsAt}
use Rattle.co_plain.specs.Numbers.{counted, next_generation}
use Rattle.co_plain.specs.LogWrite.{outcome_of, generation_of}
use Rattle.co_plain.specs.MemberStep.{says, standing_by, stopped_member, forced_by, force_member}
use Rattle.co_plain.specs.Member.{prepare_record, voted_state, installed_state, unless_blocked, member_op, vote_by, vote_on, with_mark, prepare_by, member_prepare, vote_where_asked, vote_again_by, member_vote, commit_by, abort_by, member_decide, timer_by, member_timer, ask_by, member_ask, coord_of}
use Rattle.co_plain.specs.MemberLog.{stopped_fill, fill_by, close_by, checkpoint_by, member_checkpoint, restart_by, member_restart}
use Rattle.co_plain.specs.LocalCommit.{local_coord, local_commit_by, member_local_commit, local_abort_by, member_local_abort}
use Rattle.co_law_base.proofs.Lookups.{put_here}

-- a yes that the step of member m sends is its own, of a transaction that is voted then
abbrev pub YesStands : ℕ → MemberStep → Type 0
YesStands m did = (t k c : ℕ) → did.sent ≡ Some (message.Vote t k c true) → (k ≡ m) × (holds did.state.engine.voted t ≡ true)

module _ (m : ℕ) where
  -- nothing is sent
  pub silent : (did : MemberStep) → did.sent ≡ None → YesStands m did
  silent did e t k c h = absurd (let z : None ≡ Some (message.Vote t k c true) = sym e ∙ h in cc)

  forced_silent : (next : MemberState) (batch : List Record) (a : Answer) (note : Option Message) →
      ((t k c : ℕ) → note ≡ Some (message.Vote t k c true) → (k ≡ m) × (holds next.engine.voted t ≡ true)) → YesStands m (force_member m next batch a note)
  forced_silent next batch a note h = by (outcome_of next.log.armed 4)
    where
      stopped : (call : ℕ) (b : Bool) → YesStands m (stopped_member m next call b batch)
      stopped call true = silent (stopped_member m next call true batch) refl
      stopped call false = silent (stopped_member m next call false batch) refl

      by : (o : Outcome) → YesStands m (forced_by m next batch a note o)
      by Completes = h
      by (StopsAt call leaves) = stopped call (batch_is_stable call leaves)

  votes : (x : MemberState) (t coord count : ℕ) → YesStands m (vote_on m x t coord count)
  votes x t coord count = by (vote_of x.engine t count)
    where
      by : (v : Verdict) → YesStands m (vote_by m x t coord count v)
      by LostOperations = λ u k c h. absurd (let z : Some (message.Vote t m coord false) ≡ Some (message.Vote u k c true) = h in cc)
      by (StaleRead key) = λ u k c h. absurd (let z : Some (message.Vote t m coord false) ≡ Some (message.Vote u k c true) = h in cc)
      by (HeldBy j) = silent (says x (answer.Held j)) refl
      by VoteYes =
          forced_silent (voted_state x t coord count) (prepare_record t coord count (sets_of (operations_of x.engine t)) ∷ []) answer.Yes (Some (message.Vote t m coord true))
          (λ u k c h.
          let e : Some (message.Vote t m coord true) ≡ Some (message.Vote u k c true) = h in
          let same : t ≡ u = cc in
          let mine : k ≡ m = cc in
          (mine, ap (holds (voted_state x t coord count).engine.voted) (sym same) ∙ ap is_some (put_here x.engine.voted t (record { coord = coord; count = count; sets = sets_of (operations_of x.engine t) }))))

  pub prepares : (x : MemberState) (t coord count : ℕ) → YesStands m (member_prepare m x t coord count)
  prepares x t coord count = by (holds x.engine.active t) (holds x.engine.voted t) refl (holds x.committed t)
    where
      by : (a v : Bool) → holds x.engine.voted t ≡ v → (c : Bool) → YesStands m (prepare_by m x t coord count (standing_by a v c))
      by true v e c = votes (with_mark x t coord count) t coord count
      by false true e c = λ u k d h.
          let q : Some (message.Vote t m (coord_of x t) true) ≡ Some (message.Vote u k d true) = h in
          let same : t ≡ u = cc in
          let mine : k ≡ m = cc in
          (mine, ap (holds x.engine.voted) (sym same) ∙ e)
      by false false e true = silent (says x answer.Already) refl
      by false false e false = votes x t coord count

  pub decides : (x : MemberState) (t coord : ℕ) (commit : Bool) → YesStands m (member_decide m x t coord commit)
  decides x t coord true = by (holds x.engine.active t) (holds x.engine.voted t) (holds x.committed t)
    where
      acks : (u k c : ℕ) → Some (message.Ack t m coord) ≡ Some (message.Vote u k c true) → {A : Type 0} → A
      acks u k c h = absurd (let z : Some (message.Ack t m coord) ≡ Some (message.Vote u k c true) = h in cc)

      by : (a v c : Bool) → YesStands m (commit_by m x t coord (standing_by a v c))
      by true v c = silent (says x answer.Absent) refl
      by false true c = forced_silent (installed_state x t) (log.Commit t [] ∷ []) answer.Installed (Some (message.Ack t m coord)) (λ u k d h. acks u k d h)
      by false false true = λ u k c h. acks u k c h
      by false false false = silent (says x answer.Absent) refl
  decides x t coord false = by (holds x.engine.active t) (holds x.engine.voted t) (holds x.committed t)
    where
      by : (a v c : Bool) → YesStands m (abort_by x t (standing_by a v c))
      by true v c = silent (abort_by x t (standing_by true v c)) refl
      by false true c = silent (abort_by x t (standing_by false true c)) refl
      by false false true = silent (abort_by x t (standing_by false false true)) refl
      by false false false = silent (abort_by x t (standing_by false false false)) refl

  pub tries : (x : MemberState) (t : ℕ) → YesStands m (member_vote m x t)
  tries x t = by (holds x.engine.active t) (holds x.engine.voted t) (holds x.committed t)
    where
      asked : (o : Option AskedMark) → YesStands m (vote_where_asked m x t o)
      asked None = silent (says x answer.Unasked) refl
      asked (Some mark) = votes x t mark.coord mark.count

      by : (a v c : Bool) → YesStands m (vote_again_by m x t (standing_by a v c))
      by true v c = asked (look x.asked t)
      by false true c = silent (says x answer.Voted) refl
      by false false true = silent (says x answer.Already) refl
      by false false false = silent (says x answer.Absent) refl

  pub times : (x : MemberState) (t : ℕ) → YesStands m (member_timer x t)
  times x t = by (holds x.engine.active t) (holds x.engine.voted t) (holds x.committed t)
    where
      by : (a v c : Bool) → YesStands m (timer_by x t (standing_by a v c))
      by true v c = silent (timer_by x t (standing_by true v c)) refl
      by false true c = silent (timer_by x t (standing_by false true c)) refl
      by false false true = silent (timer_by x t (standing_by false false true)) refl
      by false false false = silent (timer_by x t (standing_by false false false)) refl

  pub questions : (x : MemberState) (t : ℕ) → YesStands m (member_ask m x t)
  questions x t = by (holds x.engine.active t) (holds x.engine.voted t) (holds x.committed t)
    where
      by : (a v c : Bool) → YesStands m (ask_by m x t (standing_by a v c))
      by true v c = silent (says x answer.Unvoted) refl
      by false true c = λ u k d h. absurd (let z : Some (message.Ask t m (coord_of x t)) ≡ Some (message.Vote u k d true) = h in cc)
      by false false true = silent (says x answer.Already) refl
      by false false false = silent (says x answer.Absent) refl

  pub operates : (x : MemberState) (t carried : ℕ) (o : Op) → YesStands m (member_op x t carried o)
  operates x t carried o = by (kept_count x.engine t == carried) (carried == most_operations) (lock_blocker x.engine t o)
    where
      by : (kept most : Bool) (b : Option ℕ) →
          YesStands m (if kept then (if most then says x answer.TooMany else unless_blocked x t o b) else says x (answer.Gone (counted (kept_count x.engine t)) (counted carried)))
      by false most b = silent (says x (answer.Gone (counted (kept_count x.engine t)) (counted carried))) refl
      by true true b = silent (says x answer.TooMany) refl
      by true false (Some k) = silent (unless_blocked x t o (Some k)) refl
      by true false None = silent (unless_blocked x t o None) refl

  pub commits_alone : (x : MemberState) (t carried : ℕ) → YesStands m (member_local_commit m x t carried)
  commits_alone x t carried = by (carried == 0)
    where
      granted : (v : Verdict) → YesStands m (local_commit_by m x t carried v)
      granted LostOperations = silent (local_commit_by m x t carried LostOperations) refl
      granted (StaleRead key) = silent (local_commit_by m x t carried (StaleRead key)) refl
      granted (HeldBy k) = silent (local_commit_by m x t carried (HeldBy k)) refl
      granted VoteYes =
          forced_silent (installed_state (voted_state x t local_coord (counted carried)) t)
          (log.Commit t [] ∷ prepare_record t local_coord (counted carried) (sets_of (operations_of x.engine t)) ∷ []) answer.Committed None
          (λ u k c h. absurd (let z : None ≡ Some (message.Vote u k c true) = h in cc))

      by : (b : Bool) → YesStands m (if b then says x answer.Absent else local_commit_by m x t carried (vote_of x.engine t carried))
      by true = silent (says x answer.Absent) refl
      by false = granted (vote_of x.engine t carried)

  pub aborts_alone : (x : MemberState) (t : ℕ) → YesStands m (member_local_abort x t)
  aborts_alone x t = by (holds x.engine.active t) (holds x.engine.voted t) (holds x.committed t)
    where
      by : (a v c : Bool) → YesStands m (local_abort_by x t (standing_by a v c))
      by true v c = silent (local_abort_by x t (standing_by true v c)) refl
      by false true c = silent (local_abort_by x t (standing_by false true c)) refl
      by false false true = silent (local_abort_by x t (standing_by false false true)) refl
      by false false false = silent (local_abort_by x t (standing_by false false false)) refl

  pub restarts : (x : MemberState) → YesStands m (member_restart x)
  restarts x = by x.up
    where
      by : (b : Bool) → YesStands m (restart_by x b)
      by true = silent (restart_by x true) refl
      by false = silent (restart_by x false) refl

  pub checks : (x : MemberState) → YesStands m (member_checkpoint m x)
  checks x = by x.log.spare_closed
    where
      stopped : (generation call : ℕ) (b : Bool) → YesStands m (stopped_fill m x generation call b)
      stopped generation call true = silent (stopped_fill m x generation call true) refl
      stopped generation call false = silent (stopped_fill m x generation call false) refl

      fills : (generation : ℕ) (o : Outcome) → YesStands m (fill_by m x generation o)
      fills generation Completes = silent (fill_by m x generation Completes) refl
      fills generation (StopsAt call leaves) = stopped generation call (batch_is_stable call leaves)

      closes : (o : Outcome) → YesStands m (close_by x o)
      closes Completes = silent (close_by x Completes) refl
      closes (StopsAt call leaves) = silent (close_by x (StopsAt call leaves)) refl

      by : (b : Bool) → YesStands m (checkpoint_by m x b)
      by false = closes (outcome_of x.log.armed 2)
      by true = fills (next_generation (generation_of x.log.stable)) (outcome_of x.log.armed 4)
