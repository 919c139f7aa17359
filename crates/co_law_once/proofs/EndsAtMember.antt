-- No event of a member tells of an end.
use Rattle.std.proofs.Common.{◌≡◌, ℕ, Bool, true, false, ◌==◌, if◌then◌else◌, List, [], ◌∷◌, ◌++◌, Option, None, Some, refl, ◌∙◌}
use Rattle.std.specs.List.{list_any}
use Rattle.std.proofs.lemmas.Bool.{or_from}
use Rattle.std.proofs.lemmas.List.Folds.{list_any-append}
use Rattle.co_base.specs.declared.node.Node.TheVariants as node
use Rattle.co_base.specs.declared.op.Op.{Op}
use Rattle.co_base.specs.Limits.{most_operations}
use Rattle.co_message.specs.declared.answer.Answer.{Answer}
use Rattle.co_message.specs.declared.answer.Answer.TheVariants as answer
use Rattle.co_message.specs.declared.message.Message.{Message}
use Rattle.co_message.specs.declared.message.Message.TheVariants as message
use Rattle.co_record.specs.declared.record.Record.{Record}
use Rattle.co_record.specs.declared.record.Record.TheVariants as log
use Rattle.co_frame.specs.Gate.{batch_is_stable}
use Rattle.co_state.specs.Table.{look}
use Rattle.co_state.specs.Changes.{sets_of}
use Rattle.co_state.specs.EngineState.{operations_of}
use Rattle.co_state.specs.LockRule.{lock_blocker}
use Rattle.co_state.specs.VotingRule.{vote_of, kept_count}
use Rattle.co_state.specs.declared.verdict.Verdict.{Verdict}
use Rattle.co_state.specs.declared.verdict.Verdict.TheVariants.{LostOperations, StaleRead, HeldBy, VoteYes}
use Rattle.co_plain.specs.declared.member_state.AskedMark.{AskedMark}
use Rattle.co_plain.specs.declared.member_state.MemberState.{MemberState}
use Rattle.co_plain.specs.declared.member_step.MemberStep.{MemberStep}
use Rattle.co_plain.specs.declared.outcome.Outcome.{Outcome}
use Rattle.co_plain.specs.declared.outcome.Outcome.TheVariants.{Completes, StopsAt}
use Rattle.co_plain.specs.declared.standing.Standing.{Standing}
use Rattle.co_plain.specs.declared.standing.Standing.TheVariants.{IsActive, IsVoted, IsInstalled, IsAbsent}
use Rattle.co_plain.specs.Numbers.{counted, next_generation}
use Rattle.co_plain.specs.LogWrite.{outcome_of, generation_of, marks_of}
use Rattle.co_plain.specs.MemberStep.{says, standing_of, stopped_member, forced_by}
use Rattle.co_plain.specs.Member.{prepare_record, voted_state, vote_by, with_mark, prepare_by, vote_where_asked, vote_again_by, installed_state, commit_by, abort_by, timer_by, ask_by, unless_blocked, member_op, member_deliver, member_vote, member_timer, member_ask, member_decide}
use Rattle.co_plain.specs.MemberLog.{stopped_fill, fill_by, close_by, checkpoint_by, member_checkpoint, restart_by, member_restart}
use Rattle.co_plain.specs.LocalCommit.{local_coord, local_commit_by, local_abort_by, member_local_commit, member_local_abort}
use Rattle.co_law_base.proofs.Facts.{Rest, OnlyAborts}
use Rattle.co_law_once.proofs.Waiting.{ends_it, marks_end, any_marks, aborts_end_none}

abbrev pub NoEnd : MemberStep → Type 0
NoEnd did = (t : ℕ) → list_any (marks_end t) did.marks ≡ false

forced : (m : ℕ) (next : MemberState) → ((t : ℕ) → list_any (ends_it t) next.log.waiting ≡ false) → (batch : List Record) → ((t : ℕ) → list_any (ends_it t) batch ≡ false) →
    (a : Answer) (note : Option Message) (o : Outcome) → NoEnd (forced_by m next batch a note o)
forced m next w batch b a note o = by o
  where
    marks : (t : ℕ) → list_any (marks_end t) (marks_of (node.Member m) (batch ++ next.log.waiting)) ≡ false
    marks t =
        any_marks (node.Member m) t (batch ++ next.log.waiting) ∙ list_any-append (ends_it t) batch next.log.waiting
        ∙ or_from (list_any (ends_it t) batch) (list_any (ends_it t) next.log.waiting) (b t) (w t)

    stopped : (call : ℕ) (k : Bool) → NoEnd (stopped_member m next call k batch)
    stopped call true = marks
    stopped call false = λ t. refl

    by : (o : Outcome) → NoEnd (forced_by m next batch a note o)
    by Completes = marks
    by (StopsAt call leaves) = stopped call (batch_is_stable call leaves)

votes : (m : ℕ) (x : MemberState) → ((t : ℕ) → list_any (ends_it t) x.log.waiting ≡ false) → (t c n : ℕ) (v : Verdict) → NoEnd (vote_by m x t c n v)
votes m x w t c n LostOperations = λ t. refl
votes m x w t c n (StaleRead key) = λ t. refl
votes m x w t c n (HeldBy u) = λ t. refl
votes m x w t c n VoteYes =
    forced m (voted_state x t c n) w (prepare_record t c n (sets_of (operations_of x.engine t)) ∷ []) (λ t. refl) answer.Yes (Some (message.Vote t m c true)) (outcome_of x.log.armed 4)

module _ (r : Rest) (m : ℕ) (x : MemberState) (only : OnlyAborts r x.log.waiting) where
  w : (t : ℕ) → list_any (ends_it t) x.log.waiting ≡ false
  w t = aborts_end_none r t x.log.waiting only

  prepares : (t c n : ℕ) (st : Standing) → NoEnd (prepare_by m x t c n st)
  prepares t c n IsActive = votes m (with_mark x t c n) w t c n (vote_of x.engine t n)
  prepares t c n IsVoted = λ t. refl
  prepares t c n IsInstalled = λ t. refl
  prepares t c n IsAbsent = votes m x w t c n (vote_of x.engine t n)

  commits : (t c : ℕ) (st : Standing) → NoEnd (commit_by m x t c st)
  commits t c IsActive = λ t. refl
  commits t c IsVoted = forced m (installed_state x t) w (log.Commit t [] ∷ []) (λ t. refl) answer.Installed (Some (message.Ack t m c)) (outcome_of x.log.armed 4)
  commits t c IsInstalled = λ t. refl
  commits t c IsAbsent = λ t. refl

  drops : (t : ℕ) (st : Standing) → NoEnd (abort_by x t st)
  drops t IsActive = λ t. refl
  drops t IsVoted = λ t. refl
  drops t IsInstalled = λ t. refl
  drops t IsAbsent = λ t. refl

  pub decide_none : (t c : ℕ) (commit : Bool) → NoEnd (member_decide m x t c commit)
  decide_none t c true = commits t c (standing_of x t)
  decide_none t c false = drops t (standing_of x t)

  pub deliver_none : (note : Message) → NoEnd (member_deliver m x note)
  deliver_none (message.Prepare t c k n) = prepares t c n (standing_of x t)
  deliver_none (message.Decide t c k commit) = decide_none t c commit
  deliver_none (message.Vote t k c granted) = λ t. refl
  deliver_none (message.Ask t k c) = λ t. refl
  deliver_none (message.Ack t k c) = λ t. refl

  pub vote_none : (t : ℕ) → NoEnd (member_vote m x t)
  vote_none t = by (standing_of x t)
    where
      asked : (o : Option AskedMark) → NoEnd (vote_where_asked m x t o)
      asked None = λ t. refl
      asked (Some mark) = votes m x w t mark.coord mark.count (vote_of x.engine t mark.count)

      by : (st : Standing) → NoEnd (vote_again_by m x t st)
      by IsActive = asked (look x.asked t)
      by IsVoted = λ t. refl
      by IsInstalled = λ t. refl
      by IsAbsent = λ t. refl

  pub timer_none : (t : ℕ) → NoEnd (member_timer x t)
  timer_none t = by (standing_of x t)
    where
      by : (st : Standing) → NoEnd (timer_by x t st)
      by IsActive = λ t. refl
      by IsVoted = λ t. refl
      by IsInstalled = λ t. refl
      by IsAbsent = λ t. refl

  pub ask_none : (t : ℕ) → NoEnd (member_ask m x t)
  ask_none t = by (standing_of x t)
    where
      by : (st : Standing) → NoEnd (ask_by m x t st)
      by IsActive = λ t. refl
      by IsVoted = λ t. refl
      by IsInstalled = λ t. refl
      by IsAbsent = λ t. refl

  pub op_none : (t n : ℕ) (o : Op) → NoEnd (member_op x t n o)
  op_none t n o = kept (kept_count x.engine t == n)
    where
      blocked : (z : Option ℕ) → NoEnd (unless_blocked x t o z)
      blocked None = λ t. refl
      blocked (Some u) = λ t. refl

      full : (b : Bool) → NoEnd (if b then says x answer.TooMany else unless_blocked x t o (lock_blocker x.engine t o))
      full true = λ t. refl
      full false = blocked (lock_blocker x.engine t o)

      kept : (b : Bool) →
          NoEnd (if b
          then (if n == most_operations then says x answer.TooMany else unless_blocked x t o (lock_blocker x.engine t o))
          else says x (answer.Gone (counted (kept_count x.engine t)) (counted n)))
      kept true = full (n == most_operations)
      kept false = λ t. refl

  pub local_commit_none : (t n : ℕ) → NoEnd (member_local_commit m x t n)
  local_commit_none t n = by (n == 0)
    where
      verdict : (v : Verdict) → NoEnd (local_commit_by m x t n v)
      verdict LostOperations = λ t. refl
      verdict (StaleRead key) = λ t. refl
      verdict (HeldBy u) = λ t. refl
      verdict VoteYes =
          forced m (installed_state (voted_state x t local_coord (counted n)) t) w
          (log.Commit t [] ∷ prepare_record t local_coord (counted n) (sets_of (operations_of x.engine t)) ∷ []) (λ t. refl) answer.Committed None (outcome_of x.log.armed 4)

      by : (b : Bool) → NoEnd (if b then says x answer.Absent else local_commit_by m x t n (vote_of x.engine t n))
      by true = λ t. refl
      by false = verdict (vote_of x.engine t n)

  pub local_abort_none : (t : ℕ) → NoEnd (member_local_abort x t)
  local_abort_none t = by (standing_of x t)
    where
      by : (st : Standing) → NoEnd (local_abort_by x t st)
      by IsActive = λ t. refl
      by IsVoted = λ t. refl
      by IsInstalled = λ t. refl
      by IsAbsent = λ t. refl

  pub checkpoint_none : NoEnd (member_checkpoint m x)
  checkpoint_none = by x.log.spare_closed
    where
      stopped : (call : ℕ) (b : Bool) → NoEnd (stopped_fill m x (next_generation (generation_of x.log.stable)) call b)
      stopped call true = λ t. refl
      stopped call false = λ t. refl

      fills : (o : Outcome) → NoEnd (fill_by m x (next_generation (generation_of x.log.stable)) o)
      fills Completes = λ t. refl
      fills (StopsAt call leaves) = stopped call (batch_is_stable call leaves)

      closes : (o : Outcome) → NoEnd (close_by x o)
      closes Completes = λ t. refl
      closes (StopsAt call leaves) = λ t. refl

      by : (closed : Bool) → NoEnd (checkpoint_by m x closed)
      by false = closes (outcome_of x.log.armed 2)
      by true = fills (outcome_of x.log.armed 4)

  pub restart_none : NoEnd (member_restart x)
  restart_none = by x.up
    where
      by : (up : Bool) → NoEnd (restart_by x up)
      by true = λ t. refl
      by false = λ t. refl
