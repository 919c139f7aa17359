-- What each event of a member tells of forced records is what its moves force.
use Rattle.std.proofs.Common.{◌≡◌, ℕ, Bool, true, false, ◌==◌, if◌then◌else◌, List, [], ◌∷◌, ◌++◌, Option, None, Some, refl, sym, ap, ◌∙◌}
use Rattle.co_base.specs.declared.node.Node.TheVariants as node
use Rattle.co_message.specs.declared.answer.Answer.{Answer}
use Rattle.co_message.specs.declared.answer.Answer.TheVariants as answer
use Rattle.co_message.specs.declared.message.Message.{Message}
use Rattle.co_message.specs.declared.message.Message.TheVariants as message
use Rattle.co_record.specs.declared.record.Record.{Record}
use Rattle.co_record.specs.declared.record.Record.TheVariants as log
use Rattle.co_frame.specs.Gate.{batch_is_stable}
use Rattle.co_state.specs.declared.verdict.Verdict.{Verdict}
use Rattle.co_state.specs.declared.verdict.Verdict.TheVariants.{LostOperations, StaleRead, HeldBy, VoteYes}
use Rattle.co_state.specs.Changes.{sets_of}
use Rattle.co_state.specs.EngineState.{operations_of}
use Rattle.co_state.specs.Table.{look, holds}
use Rattle.co_state.specs.VotingRule.{vote_of}
use Rattle.co_plain.specs.declared.member_state.AskedMark.{AskedMark}
use Rattle.co_plain.specs.declared.member_state.MemberState.{MemberState}
use Rattle.co_plain.specs.declared.member_step.MemberStep.{MemberStep}
use Rattle.co_plain.specs.declared.outcome.Outcome.{Outcome}
use Rattle.co_plain.specs.declared.outcome.Outcome.TheVariants.{Completes, StopsAt}
use Rattle.co_plain.specs.declared.standing.Standing.{Standing}
use Rattle.co_plain.specs.declared.standing.Standing.TheVariants.{IsActive, IsVoted, IsInstalled, IsAbsent}
use Rattle.co_plain.specs.Federation.{message_list}
use Rattle.co_plain.specs.Numbers.{counted, next_generation}
use Rattle.co_plain.specs.LogWrite.{outcome_of, generation_of, marks_of}
use Rattle.co_plain.specs.MemberStep.{says, stopped_member, forced_by}
use Rattle.co_plain.specs.Member.{prepare_record, voted_state, vote_by, with_mark, prepare_by, vote_where_asked, vote_again_by, installed_state, commit_by, abort_by, timer_by, ask_by}
use Rattle.co_plain.specs.MemberLog.{stopped_fill, fill_by, close_by, checkpoint_by, restart_by}
use Rattle.co_plain.specs.LocalCommit.{local_coord, local_commit_by, local_abort_by, member_local_commit}
use Rattle.co_plain.specs.Moves.{Move, Cast, Install, CommitLocally, CrashMember, RestartMember, CloseMemberSpare, FillMemberSpare, AskEnd}
use Rattle.co_law_moves.specs.EventMoves.{sends, written_moves, stopped_moves, vote_moves, prepare_moves, asked_moves, again_moves, commit_moves, abort_moves, timer_moves, question_moves, closing_moves, member_checkpoint_moves, restart_moves, local_decision_moves, local_verdict_moves, local_commit_moves, local_abort_moves}
use Rattle.co_law_once.proofs.ForcedMarks.{forced_among, move_marks, Tells, AllWait, batch_told, then_sends, drops_force, drops_alone}

abbrev pub MemberTells : MemberStep → List Move → Type 0
MemberTells did moves = Tells did.marks moves

-- what a write leaves stable is what its move forces, whatever it is followed by
forced_told : (m : ℕ) (next : MemberState) (batch : List Record) (a : Answer) (last : Option Message) (move : Move) → forced_among (marks_of (node.Member m) (batch ++ next.log.waiting)) ≡ move_marks move ++ [] →
    (o : Outcome) → MemberTells (forced_by m next batch a last o) (written_moves move (CrashMember m) (sends (message_list last)) o)
forced_told m next batch a last move e Completes = e ∙ then_sends move (message_list last)
forced_told m next batch a last move e (StopsAt call leaves) = by (batch_is_stable call leaves)
  where
    by : (b : Bool) → MemberTells (stopped_member m next call b batch) (stopped_moves move (CrashMember m) b)
    by true = e
    by false = refl

module _ (m : ℕ) (x : MemberState) (w : AllWait x.log.waiting) where
  vote_told : (t c n : ℕ) (v : Verdict) → MemberTells (vote_by m x t c n v) (vote_moves x t m c n v)
  vote_told t c n LostOperations = sym (drops_force (holds x.engine.active t) t m (message.Vote t m c false))
  vote_told t c n (StaleRead key) = sym (drops_force (holds x.engine.active t) t m (message.Vote t m c false))
  vote_told t c n (HeldBy u) = refl
  vote_told t c n VoteYes =
      forced_told m (voted_state x t c n) (prepare_record t c n (sets_of (operations_of x.engine t)) ∷ []) answer.Yes (Some (message.Vote t m c true)) (Cast t m c n)
      (batch_told (node.Member m) (prepare_record t c n (sets_of (operations_of x.engine t)) ∷ []) x.log.waiting w) (outcome_of x.log.armed 4)

  again_asked : (t : ℕ) (o : Option AskedMark) → MemberTells (vote_where_asked m x t o) (asked_moves x t m o)
  again_asked t None = refl
  again_asked t (Some mark) = vote_told t mark.coord mark.count (vote_of x.engine t mark.count)

  pub again_told : (t : ℕ) (st : Standing) → MemberTells (vote_again_by m x t st) (again_moves x t m st)
  again_told t IsActive = again_asked t (look x.asked t)
  again_told t IsVoted = refl
  again_told t IsInstalled = refl
  again_told t IsAbsent = refl

  pub timer_told : (t : ℕ) (st : Standing) → MemberTells (timer_by x t st) (timer_moves t m st)
  timer_told t IsActive = refl
  timer_told t IsVoted = refl
  timer_told t IsInstalled = refl
  timer_told t IsAbsent = refl

  pub question_told : (t : ℕ) (st : Standing) → MemberTells (ask_by m x t st) (question_moves x t m st)
  question_told t IsActive = refl
  question_told t IsVoted = refl
  question_told t IsInstalled = refl
  question_told t IsAbsent = refl

  pub commit_told : (t c : ℕ) (st : Standing) → MemberTells (commit_by m x t c st) (commit_moves x t m c st)
  commit_told t c IsActive = refl
  commit_told t c IsVoted =
      forced_told m (installed_state x t) (log.Commit t [] ∷ []) answer.Installed (Some (message.Ack t m c)) (Install t m) (batch_told (node.Member m) (log.Commit t [] ∷ []) x.log.waiting w) (outcome_of x.log.armed 4)
  commit_told t c IsInstalled = refl
  commit_told t c IsAbsent = refl

  pub abort_told : (t : ℕ) (st : Standing) → MemberTells (abort_by x t st) (abort_moves t m st)
  abort_told t IsActive = refl
  abort_told t IsVoted = refl
  abort_told t IsInstalled = refl
  abort_told t IsAbsent = refl

  pub restart_told : (up : Bool) → MemberTells (restart_by x up) (restart_moves (RestartMember m) up)
  restart_told true = refl
  restart_told false = refl

  close_told : (o : Outcome) → MemberTells (close_by x o) (closing_moves (CloseMemberSpare m true) (CrashMember m) (CloseMemberSpare m) o)
  close_told Completes = refl
  close_told (StopsAt call leaves) = refl

  fill_told : (o : Outcome) → MemberTells (fill_by m x (next_generation (generation_of x.log.stable)) o) (written_moves (FillMemberSpare m) (CrashMember m) [] o)
  fill_told Completes = refl
  fill_told (StopsAt call leaves) = by (batch_is_stable call leaves)
    where
      by : (b : Bool) → MemberTells (stopped_fill m x (next_generation (generation_of x.log.stable)) call b) (stopped_moves (FillMemberSpare m) (CrashMember m) b)
      by true = refl
      by false = refl

  pub checkpoint_told : (closed : Bool) → MemberTells (checkpoint_by m x closed) (member_checkpoint_moves x m closed)
  checkpoint_told false = close_told (outcome_of x.log.armed 2)
  checkpoint_told true = fill_told (outcome_of x.log.armed 4)

  -- a local transaction: its prepare and its commit go out in one batch
  local_forced : (t n : ℕ) (next : MemberState) → next.log ≡ x.log → (o : Outcome) →
      MemberTells (forced_by m next (log.Commit t [] ∷ prepare_record t local_coord n (sets_of (operations_of x.engine t)) ∷ []) answer.Committed None o) (local_decision_moves t m o)
  local_forced t n next same o = by o
    where
      batch : List Record
      batch = log.Commit t [] ∷ prepare_record t local_coord n (sets_of (operations_of x.engine t)) ∷ []

      told : forced_among (marks_of (node.Member m) (batch ++ next.log.waiting)) ≡ move_marks (CommitLocally t m)
      told = ap (λ l. forced_among (marks_of (node.Member m) (batch ++ l.waiting))) same ∙ batch_told (node.Member m) batch x.log.waiting w

      stopped : (call : ℕ) (b : Bool) → MemberTells (stopped_member m next call b batch) (if b then CommitLocally t m ∷ CrashMember m ∷ [] else AskEnd t ∷ CrashMember m ∷ [])
      stopped call true = told
      stopped call false = refl

      by : (o : Outcome) → MemberTells (forced_by m next batch answer.Committed None o) (local_decision_moves t m o)
      by Completes = told
      by (StopsAt call leaves) = stopped call (batch_is_stable call leaves)

  local_verdict : (t n : ℕ) (v : Verdict) → MemberTells (local_commit_by m x t n v) (local_verdict_moves x t m v)
  local_verdict t n LostOperations = sym (drops_alone (holds x.engine.active t) t m)
  local_verdict t n (StaleRead key) = sym (drops_alone (holds x.engine.active t) t m)
  local_verdict t n (HeldBy u) = refl
  local_verdict t n VoteYes = local_forced t (counted n) (installed_state (voted_state x t local_coord (counted n)) t) refl (outcome_of x.log.armed 4)

  pub local_commit_told : (t n : ℕ) → MemberTells (member_local_commit m x t n) (local_commit_moves x t m n)
  local_commit_told t n = by (n == 0)
    where
      by : (b : Bool) → MemberTells (if b then says x answer.Absent else local_commit_by m x t n (vote_of x.engine t n)) (if b then AskEnd t ∷ [] else local_verdict_moves x t m (vote_of x.engine t n))
      by true = refl
      by false = local_verdict t n (vote_of x.engine t n)

  pub local_abort_told : (t : ℕ) (st : Standing) → MemberTells (local_abort_by x t st) (local_abort_moves t m st)
  local_abort_told t IsActive = refl
  local_abort_told t IsVoted = refl
  local_abort_told t IsInstalled = refl
  local_abort_told t IsAbsent = refl

pub prepare_told : (m : ℕ) (x : MemberState) → AllWait x.log.waiting → (t c n : ℕ) (st : Standing) → MemberTells (prepare_by m x t c n st) (prepare_moves x t m c n st)
prepare_told m x w t c n IsActive = vote_told m (with_mark x t c n) w t c n (vote_of x.engine t n)
prepare_told m x w t c n IsVoted = refl
prepare_told m x w t c n IsInstalled = refl
prepare_told m x w t c n IsAbsent = vote_told m x w t c n (vote_of x.engine t n)
