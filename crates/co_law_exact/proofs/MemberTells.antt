-- Which events of a member send a vote, give an answer of the voting rule, or one to an operation: no other than those of their own.
use Rattle.std.proofs.Common.{◌≡◌, ℕ, Bool, true, false, ◌==◌, if◌then◌else◌, List, [], ◌∷◌, Option, None, Some, refl}
use Rattle.std.specs.List.{list_any}
use Rattle.co_base.specs.declared.op.Op.{Op}
use Rattle.co_base.specs.Limits.{most_operations}
use Rattle.co_message.specs.declared.answer.Answer.{Answer}
use Rattle.co_message.specs.declared.answer.Answer.TheVariants as answer
use Rattle.co_message.specs.declared.message.Message.{Message}
use Rattle.co_message.specs.declared.message.Message.TheVariants as message
use Rattle.co_record.specs.declared.record.Record.{Record}
use Rattle.co_record.specs.declared.record.Record.TheVariants as log
use Rattle.co_frame.specs.Gate.{batch_is_stable}
use Rattle.co_state.specs.declared.verdict.Verdict.{Verdict}
use Rattle.co_state.specs.declared.verdict.Verdict.TheVariants.{LostOperations, StaleRead, HeldBy, VoteYes}
use Rattle.co_state.specs.Changes.{sets_of}
use Rattle.co_state.specs.EngineState.{operations_of}
use Rattle.co_state.specs.LockRule.{lock_blocker}
use Rattle.co_state.specs.Table.{look}
use Rattle.co_state.specs.VotingRule.{kept_count, vote_of}
use Rattle.co_plain.specs.declared.member_state.AskedMark.{AskedMark}
use Rattle.co_plain.specs.declared.member_state.MemberState.{MemberState}
use Rattle.co_plain.specs.declared.member_step.MemberStep.{MemberStep}
use Rattle.co_plain.specs.declared.outcome.Outcome.{Outcome}
use Rattle.co_plain.specs.declared.outcome.Outcome.TheVariants.{Completes, StopsAt}
use Rattle.co_plain.specs.declared.standing.Standing.{Standing}
use Rattle.co_plain.specs.declared.standing.Standing.TheVariants.{IsActive, IsVoted, IsInstalled, IsAbsent}
use Rattle.co_plain.specs.Federation.{message_list}
use Rattle.co_plain.specs.Numbers.{counted, next_generation}
use Rattle.co_plain.specs.LogWrite.{outcome_of, generation_of}
use Rattle.co_plain.specs.MemberStep.{says, standing_of, stopped_member, forced_by}
use Rattle.co_plain.specs.Member.{prepare_record, voted_state, vote_by, with_mark, prepare_by, member_prepare, vote_where_asked, vote_again_by, member_vote, installed_state, commit_by, abort_by, member_decide, timer_by, member_timer, ask_by, member_ask, unless_blocked, member_op}
use Rattle.co_plain.specs.MemberLog.{stopped_fill, fill_by, close_by, checkpoint_by, member_checkpoint, restart_by, member_restart}
use Rattle.co_plain.specs.LocalCommit.{local_coord, local_commit_by, local_abort_by, member_local_commit, member_local_abort}

-- a vote that is sent, an answer of the voting rule, and one to an operation, each where it is looked for
abbrev pub is_vote : Bool → Message → Bool
is_vote v (message.Vote t m c granted) = v
is_vote v _ = false

abbrev pub is_told : Bool → Bool → Answer → Bool
is_told h b (answer.Held u) = h
is_told h b (answer.NoStale key) = h
is_told h b (answer.NoLost kept count) = h
is_told h b (answer.Gone kept count) = b
is_told h b answer.TooMany = b
is_told h b (answer.Blocked u) = b
is_told h b (answer.Replied reply) = b
is_told h b _ = false

-- a step of a member tells none of what is looked for
abbrev pub Lacks : Bool → Bool → Bool → MemberStep → Type 0
Lacks v h b did = (list_any (is_vote v) (message_list did.sent) ≡ false) × (is_told h b did.answer ≡ false)

module _ (v h b : Bool) where
  forced : (m : ℕ) (next : MemberState) (batch : List Record) (a : Answer) (last : Option Message) → list_any (is_vote v) (message_list last) ≡ false → is_told h b a ≡ false → (o : Outcome) →
      Lacks v h b (forced_by m next batch a last o)
  forced m next batch a last p q Completes = (p, q)
  forced m next batch a last p q (StopsAt call leaves) = by (batch_is_stable call leaves)
    where
      by : (k : Bool) → Lacks v h b (stopped_member m next call k batch)
      by true = (refl, refl)
      by false = (refl, refl)

-- votes
module _ (b : Bool) (m : ℕ) where
  votes : (x : MemberState) (t c n : ℕ) (v : Verdict) → Lacks false false b (vote_by m x t c n v)
  votes x t c n LostOperations = (refl, refl)
  votes x t c n (StaleRead key) = (refl, refl)
  votes x t c n (HeldBy u) = (refl, refl)
  votes x t c n VoteYes =
      forced false false b m (voted_state x t c n) (prepare_record t c n (sets_of (operations_of x.engine t)) ∷ []) answer.Yes (Some (message.Vote t m c true)) refl refl (outcome_of x.log.armed 4)

  pub prepare_lacks : (x : MemberState) (t c n : ℕ) → Lacks false false b (member_prepare m x t c n)
  prepare_lacks x t c n = by (standing_of x t)
    where
      by : (st : Standing) → Lacks false false b (prepare_by m x t c n st)
      by IsActive = votes (with_mark x t c n) t c n (vote_of x.engine t n)
      by IsVoted = (refl, refl)
      by IsInstalled = (refl, refl)
      by IsAbsent = votes x t c n (vote_of x.engine t n)

  pub vote_lacks : (x : MemberState) (t : ℕ) → Lacks false false b (member_vote m x t)
  vote_lacks x t = by (standing_of x t)
    where
      asked : (o : Option AskedMark) → Lacks false false b (vote_where_asked m x t o)
      asked None = (refl, refl)
      asked (Some mark) = votes x t mark.coord mark.count (vote_of x.engine t mark.count)

      by : (st : Standing) → Lacks false false b (vote_again_by m x t st)
      by IsActive = asked (look x.asked t)
      by IsVoted = (refl, refl)
      by IsInstalled = (refl, refl)
      by IsAbsent = (refl, refl)

-- an operation
module _ (v h : Bool) where
  pub op_lacks : (x : MemberState) (t n : ℕ) (o : Op) → Lacks v h false (member_op x t n o)
  op_lacks x t n o = kept (kept_count x.engine t == n)
    where
      blocked : (z : Option ℕ) → Lacks v h false (unless_blocked x t o z)
      blocked None = (refl, refl)
      blocked (Some u) = (refl, refl)

      full : (k : Bool) → Lacks v h false (if k then says x answer.TooMany else unless_blocked x t o (lock_blocker x.engine t o))
      full true = (refl, refl)
      full false = blocked (lock_blocker x.engine t o)

      kept : (k : Bool) →
          Lacks v h false (if k
          then (if n == most_operations then says x answer.TooMany else unless_blocked x t o (lock_blocker x.engine t o))
          else says x (answer.Gone (counted (kept_count x.engine t)) (counted n)))
      kept true = full (n == most_operations)
      kept false = (refl, refl)

-- the end of a local transaction
module _ (v b : Bool) (m : ℕ) (x : MemberState) where
  pub local_commit_lacks : (t n : ℕ) → Lacks v false b (member_local_commit m x t n)
  local_commit_lacks t n = by (n == 0)
    where
      verdict : (w : Verdict) → Lacks v false b (local_commit_by m x t n w)
      verdict LostOperations = (refl, refl)
      verdict (StaleRead key) = (refl, refl)
      verdict (HeldBy u) = (refl, refl)
      verdict VoteYes =
          forced v false b m (installed_state (voted_state x t local_coord (counted n)) t)
          (log.Commit t [] ∷ prepare_record t local_coord (counted n) (sets_of (operations_of x.engine t)) ∷ []) answer.Committed None refl refl (outcome_of x.log.armed 4)

      by : (k : Bool) → Lacks v false b (if k then says x answer.Absent else local_commit_by m x t n (vote_of x.engine t n))
      by true = (refl, refl)
      by false = verdict (vote_of x.engine t n)

-- the other events
module _ (v h b : Bool) (m : ℕ) (x : MemberState) where
  pub local_abort_lacks : (t : ℕ) → Lacks v h b (member_local_abort x t)
  local_abort_lacks t = by (standing_of x t)
    where
      by : (st : Standing) → Lacks v h b (local_abort_by x t st)
      by IsActive = (refl, refl)
      by IsVoted = (refl, refl)
      by IsInstalled = (refl, refl)
      by IsAbsent = (refl, refl)

  commits : (t c : ℕ) (st : Standing) → Lacks v h b (commit_by m x t c st)
  commits t c IsActive = (refl, refl)
  commits t c IsVoted = forced v h b m (installed_state x t) (log.Commit t [] ∷ []) answer.Installed (Some (message.Ack t m c)) refl refl (outcome_of x.log.armed 4)
  commits t c IsInstalled = (refl, refl)
  commits t c IsAbsent = (refl, refl)

  drops : (t : ℕ) (st : Standing) → Lacks v h b (abort_by x t st)
  drops t IsActive = (refl, refl)
  drops t IsVoted = (refl, refl)
  drops t IsInstalled = (refl, refl)
  drops t IsAbsent = (refl, refl)

  pub decide_lacks : (t c : ℕ) (commit : Bool) → Lacks v h b (member_decide m x t c commit)
  decide_lacks t c true = commits t c (standing_of x t)
  decide_lacks t c false = drops t (standing_of x t)

  pub timer_lacks : (t : ℕ) → Lacks v h b (member_timer x t)
  timer_lacks t = by (standing_of x t)
    where
      by : (st : Standing) → Lacks v h b (timer_by x t st)
      by IsActive = (refl, refl)
      by IsVoted = (refl, refl)
      by IsInstalled = (refl, refl)
      by IsAbsent = (refl, refl)

  pub ask_lacks : (t : ℕ) → Lacks v h b (member_ask m x t)
  ask_lacks t = by (standing_of x t)
    where
      by : (st : Standing) → Lacks v h b (ask_by m x t st)
      by IsActive = (refl, refl)
      by IsVoted = (refl, refl)
      by IsInstalled = (refl, refl)
      by IsAbsent = (refl, refl)

  pub checkpoint_lacks : Lacks v h b (member_checkpoint m x)
  checkpoint_lacks = by x.log.spare_closed
    where
      stopped : (call : ℕ) (k : Bool) → Lacks v h b (stopped_fill m x (next_generation (generation_of x.log.stable)) call k)
      stopped call true = (refl, refl)
      stopped call false = (refl, refl)

      fills : (o : Outcome) → Lacks v h b (fill_by m x (next_generation (generation_of x.log.stable)) o)
      fills Completes = (refl, refl)
      fills (StopsAt call leaves) = stopped call (batch_is_stable call leaves)

      closes : (o : Outcome) → Lacks v h b (close_by x o)
      closes Completes = (refl, refl)
      closes (StopsAt call leaves) = (refl, refl)

      by : (closed : Bool) → Lacks v h b (checkpoint_by m x closed)
      by false = closes (outcome_of x.log.armed 2)
      by true = fills (outcome_of x.log.armed 4)

  pub restart_lacks : Lacks v h b (member_restart x)
  restart_lacks = by x.up
    where
      by : (up : Bool) → Lacks v h b (restart_by x up)
      by true = (refl, refl)
      by false = (refl, refl)
