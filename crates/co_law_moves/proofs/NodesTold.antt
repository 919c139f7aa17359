-- The items of each node's event tell exactly of its moves.
use Rattle.std.proofs.Common.{◌≡◌, ℕ, Bool, true, false, not, ◌&&◌, ◌==◌, if◌then◌else◌, List, [], ◌∷◌, ◌++◌, Option, None, Some, refl, sym, ap, ◌∙◌}
use Rattle.co_base.specs.declared.node.Node.TheVariants as node
use Rattle.co_base.specs.declared.part.Part.{Part}
use Rattle.co_message.specs.declared.answer.Answer.{Answer}
use Rattle.co_message.specs.declared.answer.Answer.TheVariants as answer
use Rattle.co_message.specs.declared.answer.Cause.{Cause}
use Rattle.co_message.specs.declared.answer.Cause.TheVariants as cause
use Rattle.co_message.specs.declared.event.Event.{Event}
use Rattle.co_message.specs.declared.message.Message.{Message}
use Rattle.co_message.specs.declared.message.Message.TheVariants as message
use Rattle.co_record.specs.declared.record.Record.{Record}
use Rattle.co_record.specs.declared.record.Record.TheVariants as log
use Rattle.co_frame.specs.Gate.{batch_is_stable}
use Rattle.co_state.specs.declared.verdict.Verdict.{Verdict}
use Rattle.co_state.specs.declared.verdict.Verdict.TheVariants.{LostOperations, StaleRead, HeldBy, VoteYes}
use Rattle.co_state.specs.Table.{look, holds, put, without}
use Rattle.co_state.specs.Changes.{sets_of}
use Rattle.co_state.specs.EngineState.{operations_of}
use Rattle.co_state.specs.VotingRule.{vote_of}
use Rattle.co_plain.specs.declared.coord_state.CoordState.{CoordState}
use Rattle.co_plain.specs.declared.coord_state.Entry.{Entry}
use Rattle.co_plain.specs.declared.coord_state.Entry.TheVariants as entry
use Rattle.co_plain.specs.declared.coord_step.CoordStep.{CoordStep}
use Rattle.co_plain.specs.declared.member_state.AskedMark.{AskedMark}
use Rattle.co_plain.specs.declared.member_state.MemberState.{MemberState}
use Rattle.co_plain.specs.declared.member_step.MemberStep.{MemberStep}
use Rattle.co_plain.specs.declared.outcome.Outcome.{Outcome}
use Rattle.co_plain.specs.declared.outcome.Outcome.TheVariants.{Completes, StopsAt}
use Rattle.co_plain.specs.declared.standing.Standing.{Standing}
use Rattle.co_plain.specs.declared.standing.Standing.TheVariants.{IsActive, IsVoted, IsInstalled, IsAbsent}
use Rattle.co_plain.specs.Numbers.{first_lacking, has_number, numbers_lacking, next_generation, counted}
use Rattle.co_plain.specs.LogWrite.{marks_of, outcome_of, generation_of}
use Rattle.co_plain.specs.MemberStep.{says, stopped_member, forced_by}
use Rattle.co_plain.specs.Member.{prepare_record, voted_state, vote_by, with_mark, prepare_by, vote_where_asked, vote_again_by, installed_state, commit_by, abort_by, timer_by, ask_by}
use Rattle.co_plain.specs.MemberLog.{stopped_fill, fill_by, close_by, checkpoint_by, restart_by}
use Rattle.co_plain.specs.LocalCommit.{local_coord, local_commit_by, local_abort_by, member_local_commit}
use Rattle.co_plain.specs.CoordStep.{with_table, members_of, has_part, stopped_coord, coord_forced_by, coord_says}
use Rattle.co_plain.specs.Coordinator.{waits, aborts, ask_commit, commit_entry, abort_entry, decided_by, yes_entry, no_entry, ask_entry, ended_by, ack_entry, timer_entry, resend_entry, decisions_to, prepares_to, parts_lacking}
use Rattle.co_plain.specs.CoordLog.{coord_stopped_fill, coord_fill_by, coord_close_by, coord_checkpoint_by, coord_restart_by}
use Rattle.co_plain.specs.Federation.{Federation, message_list}
use Rattle.co_plain.specs.CommitmentOrder.{Committed, traced_answer}
use Rattle.co_plain.specs.Invariants.{ends_only}
use Rattle.co_plain.specs.Moves.{Move, MarkAsked, Collect, Leave, Cast, Install, CommitLocally, CrashMember, RestartMember, CloseMemberSpare, FillMemberSpare, Decide, CrashCoord, RestartCoord, CloseCoordSpare, FillCoordSpare, AskEnd, effect}
use Rattle.co_law_base.proofs.Facts.{Rest, OnlyAborts}
use Rattle.co_law_moves.specs.EventMoves.{sends, written_moves, stopped_moves, drop_moves, vote_moves, prepare_moves, asked_moves, again_moves, commit_moves, abort_moves, timer_moves, question_moves, closing_moves, member_checkpoint_moves, restart_moves, local_decision_moves, local_verdict_moves, local_commit_moves, local_abort_moves, decided_at_once, ask_commit_moves, commit_entry_moves, leave_moves, abort_entry_moves, yes_counted_moves, yes_moves, no_moves, ask_moves, ack_counted_moves, ack_moves, coord_timer_moves, resend_moves, coord_checkpoint_moves}
use Rattle.co_law_moves.specs.MoveTraces.{move_trace, moves_trace, sent_by, sent_by_move}
use Rattle.co_law_moves.proofs.ItemsTold.{marks_trace, Tells, AllSilent, silent_marks, commit_told, aborts_silent, ends_silent, sends_trace, then_sends, drops_trace, sent_back, sent_behind, drops_sent}

abbrev pub MemberTells : MemberStep → List Move → Type 0
MemberTells did moves = Tells did.marks (message_list did.sent) did.answer moves

abbrev pub CoordTells : CoordStep → List Move → Type 0
CoordTells did moves = Tells did.marks did.sent did.answer moves

forced_told : (m : ℕ) (next : MemberState) (batch : List Record) (a : Answer) (note : Option Message) (move : Move) → ((s : Federation) → marks_trace (marks_of (node.Member m) (batch ++ next.log.waiting)) ≡ move_trace s move ++ []) →
    ((e : Event) → traced_answer e a ≡ []) → sent_by_move move ≡ [] → (o : Outcome) → MemberTells (forced_by m next batch a note o) (written_moves move (CrashMember m) (sends (message_list note)) o)
forced_told m next batch a note move e q p Completes = (λ s. e s ∙ then_sends move (message_list note) s, q, sent_behind move (message_list note) p)
forced_told m next batch a note move e q p (StopsAt call leaves) = by (batch_is_stable call leaves)
  where
    by : (b : Bool) → MemberTells (stopped_member m next call b batch) (stopped_moves move (CrashMember m) b)
    by true = (e, λ e. refl, ap (λ k. k ++ []) p)
    by false = (λ s. refl, λ e. refl, refl)

module _ (r : Rest) (m : ℕ) (x : MemberState) (w : OnlyAborts r x.log.waiting) where
  quiet : AllSilent x.log.waiting
  quiet = aborts_silent r x.log.waiting w

  vote_told : (t c n : ℕ) (v : Verdict) → MemberTells (vote_by m x t c n v) (vote_moves x t m c n v)
  vote_told t c n LostOperations =
      (λ s. sym (drops_trace (holds x.engine.active t) t m (message.Vote t m c false) s), λ e. refl, drops_sent (holds x.engine.active t) t m (message.Vote t m c false))
  vote_told t c n (StaleRead key) =
      (λ s. sym (drops_trace (holds x.engine.active t) t m (message.Vote t m c false) s), λ e. refl, drops_sent (holds x.engine.active t) t m (message.Vote t m c false))
  vote_told t c n (HeldBy u) = (λ s. refl, λ e. refl, refl)
  vote_told t c n VoteYes =
      forced_told m (voted_state x t c n) (prepare_record t c n (sets_of (operations_of x.engine t)) ∷ []) answer.Yes (Some (message.Vote t m c true)) (Cast t m c n)
      (λ s. silent_marks (node.Member m) (prepare_record t c n (sets_of (operations_of x.engine t)) ∷ x.log.waiting) (tt, quiet)) (λ e. refl) refl (outcome_of x.log.armed 4)

  again_asked : (t : ℕ) (o : Option AskedMark) → MemberTells (vote_where_asked m x t o) (asked_moves x t m o)
  again_asked t None = (λ s. refl, λ e. refl, refl)
  again_asked t (Some mark) = vote_told t mark.coord mark.count (vote_of x.engine t mark.count)

  pub again_told : (t : ℕ) (st : Standing) → MemberTells (vote_again_by m x t st) (again_moves x t m st)
  again_told t IsActive = again_asked t (look x.asked t)
  again_told t IsVoted = (λ s. refl, λ e. refl, refl)
  again_told t IsInstalled = (λ s. refl, λ e. refl, refl)
  again_told t IsAbsent = (λ s. refl, λ e. refl, refl)

  pub timer_told : (t : ℕ) (st : Standing) → MemberTells (timer_by x t st) (timer_moves t m st)
  timer_told t IsActive = (λ s. refl, λ e. refl, refl)
  timer_told t IsVoted = (λ s. refl, λ e. refl, refl)
  timer_told t IsInstalled = (λ s. refl, λ e. refl, refl)
  timer_told t IsAbsent = (λ s. refl, λ e. refl, refl)

  pub question_told : (t : ℕ) (st : Standing) → MemberTells (ask_by m x t st) (question_moves x t m st)
  question_told t IsActive = (λ s. refl, λ e. refl, refl)
  question_told t IsVoted = (λ s. refl, λ e. refl, refl)
  question_told t IsInstalled = (λ s. refl, λ e. refl, refl)
  question_told t IsAbsent = (λ s. refl, λ e. refl, refl)

  pub commit_event_told : (t c : ℕ) (st : Standing) → MemberTells (commit_by m x t c st) (commit_moves x t m c st)
  commit_event_told t c IsActive = (λ s. refl, λ e. refl, refl)
  commit_event_told t c IsVoted =
      forced_told m (installed_state x t) (log.Commit t [] ∷ []) answer.Installed (Some (message.Ack t m c)) (Install t m) (λ s. commit_told (node.Member m) t [] x.log.waiting quiet) (λ e. refl) refl (outcome_of x.log.armed 4)
  commit_event_told t c IsInstalled = (λ s. refl, λ e. refl, refl)
  commit_event_told t c IsAbsent = (λ s. refl, λ e. refl, refl)

  pub abort_event_told : (t : ℕ) (st : Standing) → MemberTells (abort_by x t st) (abort_moves t m st)
  abort_event_told t IsActive = (λ s. refl, λ e. refl, refl)
  abort_event_told t IsVoted = (λ s. refl, λ e. refl, refl)
  abort_event_told t IsInstalled = (λ s. refl, λ e. refl, refl)
  abort_event_told t IsAbsent = (λ s. refl, λ e. refl, refl)

  pub restart_told : (up : Bool) → MemberTells (restart_by x up) (restart_moves (RestartMember m) up)
  restart_told true = (λ s. refl, λ e. refl, refl)
  restart_told false = (λ s. refl, λ e. refl, refl)

  close_told : (o : Outcome) → MemberTells (close_by x o) (closing_moves (CloseMemberSpare m true) (CrashMember m) (CloseMemberSpare m) o)
  close_told Completes = (λ s. refl, λ e. refl, refl)
  close_told (StopsAt call leaves) = (λ s. refl, λ e. refl, refl)

  fill_told : (o : Outcome) → MemberTells (fill_by m x (next_generation (generation_of x.log.stable)) o) (written_moves (FillMemberSpare m) (CrashMember m) [] o)
  fill_told Completes = (λ s. refl, λ e. refl, refl)
  fill_told (StopsAt call leaves) = by (batch_is_stable call leaves)
    where
      by : (b : Bool) → MemberTells (stopped_fill m x (next_generation (generation_of x.log.stable)) call b) (stopped_moves (FillMemberSpare m) (CrashMember m) b)
      by true = (λ s. refl, λ e. refl, refl)
      by false = (λ s. refl, λ e. refl, refl)

  pub checkpoint_told : (closed : Bool) → MemberTells (checkpoint_by m x closed) (member_checkpoint_moves x m closed)
  checkpoint_told false = close_told (outcome_of x.log.armed 2)
  checkpoint_told true = fill_told (outcome_of x.log.armed 4)

  -- a local transaction
  local_forced_told : (t n : ℕ) (next : MemberState) → next.log ≡ x.log → (o : Outcome) →
      MemberTells (forced_by m next (log.Commit t [] ∷ prepare_record t local_coord n (sets_of (operations_of x.engine t)) ∷ []) answer.Committed None o) (local_decision_moves t m o)
  local_forced_told t n next same Completes = (
    λ s. ap (λ l. marks_trace (marks_of (node.Member m) (log.Commit t [] ∷ prepare_record t local_coord n (sets_of (operations_of x.engine t)) ∷ l.waiting))) same
        ∙ commit_told (node.Member m) t [] (prepare_record t local_coord n (sets_of (operations_of x.engine t)) ∷ x.log.waiting) (tt, quiet),
    λ e. refl,
    refl,
  )
  local_forced_told t n next same (StopsAt call leaves) = by (batch_is_stable call leaves)
    where
      by : (b : Bool) → MemberTells (stopped_member m next call b (log.Commit t [] ∷ prepare_record t local_coord n (sets_of (operations_of x.engine t)) ∷ []))
          (if b then CommitLocally t m ∷ CrashMember m ∷ [] else AskEnd t ∷ CrashMember m ∷ [])
      by true = (
        λ s. ap (λ l. marks_trace (marks_of (node.Member m) (log.Commit t [] ∷ prepare_record t local_coord n (sets_of (operations_of x.engine t)) ∷ l.waiting))) same
            ∙ commit_told (node.Member m) t [] (prepare_record t local_coord n (sets_of (operations_of x.engine t)) ∷ x.log.waiting) (tt, quiet),
        λ e. refl,
        refl,
      )
      by false = (λ s. refl, λ e. refl, refl)

  drops_alone : (b : Bool) (t : ℕ) (s : Federation) → [] ≡ moves_trace (AskEnd t ∷ drop_moves b t m) s
  drops_alone true t s = refl
  drops_alone false t s = refl

  drops_silent : (b : Bool) (t : ℕ) → sent_by (AskEnd t ∷ drop_moves b t m) ≡ []
  drops_silent true t = refl
  drops_silent false t = refl

  local_verdict_told : (t n : ℕ) (v : Verdict) → MemberTells (local_commit_by m x t n v) (local_verdict_moves x t m v)
  local_verdict_told t n LostOperations = (drops_alone (holds x.engine.active t) t, λ e. refl, drops_silent (holds x.engine.active t) t)
  local_verdict_told t n (StaleRead key) = (drops_alone (holds x.engine.active t) t, λ e. refl, drops_silent (holds x.engine.active t) t)
  local_verdict_told t n (HeldBy u) = (λ s. refl, λ e. refl, refl)
  local_verdict_told t n VoteYes = local_forced_told t (counted n) (installed_state (voted_state x t local_coord (counted n)) t) refl (outcome_of x.log.armed 4)

  pub local_commit_told : (t n : ℕ) → MemberTells (member_local_commit m x t n) (local_commit_moves x t m n)
  local_commit_told t n = by (n == 0)
    where
      by : (b : Bool) → MemberTells (if b then says x answer.Absent else local_commit_by m x t n (vote_of x.engine t n)) (if b then AskEnd t ∷ [] else local_verdict_moves x t m (vote_of x.engine t n))
      by true = (λ s. refl, λ e. refl, refl)
      by false = local_verdict_told t n (vote_of x.engine t n)

  pub local_abort_told : (t : ℕ) (st : Standing) → MemberTells (local_abort_by x t st) (local_abort_moves t m st)
  local_abort_told t IsActive = (λ s. refl, λ e. refl, refl)
  local_abort_told t IsVoted = (λ s. refl, λ e. refl, refl)
  local_abort_told t IsInstalled = (λ s. refl, λ e. refl, refl)
  local_abort_told t IsAbsent = (λ s. refl, λ e. refl, refl)

pub prepare_told : (r : Rest) (m : ℕ) (x : MemberState) → OnlyAborts r x.log.waiting → (t c n : ℕ) (st : Standing) → MemberTells (prepare_by m x t c n st) (prepare_moves x t m c n st)
prepare_told r m x w t c n IsActive =
    let told = vote_told r m (with_mark x t c n) w t c n (vote_of x.engine t n) in (λ s. told.0 (effect s (MarkAsked t m c n)), told.1, told.2)
prepare_told r m x w t c n IsVoted = (λ s. refl, λ e. refl, refl)
prepare_told r m x w t c n IsInstalled = (λ s. refl, λ e. refl, refl)
prepare_told r m x w t c n IsAbsent = vote_told r m x w t c n (vote_of x.engine t n)

-- a step of a coordinator
module _ (c : ℕ) (y : CoordState) (w : ends_only y.log.waiting ≡ true) where
  quiet' : AllSilent y.log.waiting
  quiet' = ends_silent y.log.waiting w

  deciding_told : (t : ℕ) (next : CoordState) (members : List ℕ) (notes : List Message) → next.log ≡ y.log → (o : Outcome) →
      CoordTells (coord_forced_by c next (log.Commit t members ∷ []) answer.Committed notes o) (written_moves (Decide t c) (CrashCoord c) (sends notes) o)
  deciding_told t next members notes same o = by o
    where
      marks : marks_trace (marks_of (node.Coord c) (log.Commit t members ∷ next.log.waiting)) ≡ Committed (node.Coord c) t ∷ []
      marks = ap (λ l. marks_trace (marks_of (node.Coord c) (log.Commit t members ∷ l.waiting))) same ∙ commit_told (node.Coord c) t members y.log.waiting quiet'

      stopped : (call : ℕ) (b : Bool) → CoordTells (stopped_coord c next call b (log.Commit t members ∷ [])) (stopped_moves (Decide t c) (CrashCoord c) b)
      stopped call true = (λ s. marks, λ e. refl, refl)
      stopped call false = (λ s. refl, λ e. refl, refl)

      by : (o : Outcome) → CoordTells (coord_forced_by c next (log.Commit t members ∷ []) answer.Committed notes o) (written_moves (Decide t c) (CrashCoord c) (sends notes) o)
      by Completes = (λ s. marks ∙ then_sends (Decide t c) notes s, λ e. refl, sent_back notes)
      by (StopsAt call leaves) = stopped call (batch_is_stable call leaves)

  at_once_told : (t : ℕ) (o : Outcome) → CoordTells (coord_forced_by c (with_table y (without y.table t)) (log.Commit t [] ∷ []) answer.Committed [] o) (decided_at_once t c o)
  at_once_told t Completes = deciding_told t (with_table y (without y.table t)) [] [] refl Completes
  at_once_told t (StopsAt call leaves) = deciding_told t (with_table y (without y.table t)) [] [] refl (StopsAt call leaves)

  ask_told : (t : ℕ) (ps : List Part) → CoordTells (ask_commit c y t ps) (ask_commit_moves y t c ps)
  ask_told t [] = at_once_told t (outcome_of y.log.armed 4)
  ask_told t (p ∷ ps) = (λ s. sym (sends_trace (prepares_to c t (p ∷ ps)) (effect (effect s (AskEnd t)) (Collect t c))), λ e. refl, sent_back (prepares_to c t (p ∷ ps)))

  pub commit_entry_told : (t : ℕ) (parts : List Part) (o : Option Entry) → CoordTells (commit_entry c y t parts o) (commit_entry_moves y t c parts o)
  commit_entry_told t parts None = (λ s. refl, λ e. refl, refl)
  commit_entry_told t parts (Some entry.Idle) = ask_told t parts
  commit_entry_told t parts (Some (entry.Collecting ps yeses)) = (λ s. refl, λ e. refl, refl)
  commit_entry_told t parts (Some (entry.Committed ms acks)) = (λ s. refl, λ e. refl, refl)

  leave_told : (t : ℕ) (by : Cause) (parts : List Part) → CoordTells (aborts c y t by parts) (leave_moves t c parts)
  leave_told t by parts = (λ s. sym (sends_trace (decisions_to c t false (members_of parts)) (effect s (Leave t c))), λ e. refl, sent_back (decisions_to c t false (members_of parts)))

  pub abort_entry_told : (t : ℕ) (parts : List Part) (o : Option Entry) → CoordTells (abort_entry c y t parts o) (abort_entry_moves t c parts o)
  abort_entry_told t parts None = (λ s. refl, λ e. refl, refl)
  abort_entry_told t parts (Some entry.Idle) = let told = leave_told t cause.Client parts in (λ s. told.0 (effect s (AskEnd t)), told.1, told.2)
  abort_entry_told t parts (Some (entry.Collecting ps yeses)) = (λ s. refl, λ e. refl, refl)
  abort_entry_told t parts (Some (entry.Committed ms acks)) = (λ s. refl, λ e. refl, refl)

  yes_missing : (t m : ℕ) (parts : List Part) (yeses : List ℕ) (o : Option ℕ) → CoordTells (decided_by c y t parts yeses o) (yes_counted_moves y t c m parts o)
  yes_missing t m parts yeses (Some k) = (λ s. refl, λ e. refl, refl)
  yes_missing t m parts yeses None = deciding_told t (with_table y (put y.table t (entry.Committed (members_of parts) []))) (members_of parts) (decisions_to c t true (members_of parts)) refl (outcome_of y.log.armed 4)

  pub yes_told : (t m : ℕ) (o : Option Entry) → CoordTells (yes_entry c y t m o) (yes_moves y t c m o)
  yes_told t m None = (λ s. refl, λ e. refl, refl)
  yes_told t m (Some entry.Idle) = (λ s. refl, λ e. refl, refl)
  yes_told t m (Some (entry.Committed members acks)) = (λ s. refl, λ e. refl, refl)
  yes_told t m (Some (entry.Collecting parts yeses)) = by (has_part parts m && not (has_number yeses m))
    where
      by : (b : Bool) → CoordTells (if b then decided_by c y t parts (m ∷ yeses) (first_lacking (members_of parts) (m ∷ yeses)) else waits y parts yeses)
          (if b then yes_counted_moves y t c m parts (first_lacking (members_of parts) (m ∷ yeses)) else [])
      by true = yes_missing t m parts (m ∷ yeses) (first_lacking (members_of parts) (m ∷ yeses))
      by false = (λ s. refl, λ e. refl, refl)

  pub no_told : (t m : ℕ) (o : Option Entry) → CoordTells (no_entry c y t m o) (no_moves t c m o)
  no_told t m None = (λ s. refl, λ e. refl, refl)
  no_told t m (Some entry.Idle) = (λ s. refl, λ e. refl, refl)
  no_told t m (Some (entry.Committed members acks)) = (λ s. refl, λ e. refl, refl)
  no_told t m (Some (entry.Collecting parts yeses)) = by (has_part parts m)
    where
      by : (b : Bool) → CoordTells (if b then aborts c y t cause.Vote parts else waits y parts yeses) (if b then leave_moves t c parts else [])
      by true = leave_told t cause.Vote parts
      by false = (λ s. refl, λ e. refl, refl)

  pub ask_entry_told : (t m : ℕ) (o : Option Entry) → CoordTells (ask_entry c y t m o) (ask_moves t c m o)
  ask_entry_told t m None = (λ s. refl, λ e. refl, refl)
  ask_entry_told t m (Some entry.Idle) = (λ s. refl, λ e. refl, refl)
  ask_entry_told t m (Some (entry.Collecting parts yeses)) = (λ s. refl, λ e. refl, refl)
  ask_entry_told t m (Some (entry.Committed members acks)) = (λ s. refl, λ e. refl, refl)

  ack_missing : (t m : ℕ) (members acks : List ℕ) (o : Option ℕ) → CoordTells (ended_by y t members acks o) (ack_counted_moves t c m o)
  ack_missing t m members acks (Some k) = (λ s. refl, λ e. refl, refl)
  ack_missing t m members acks None = (λ s. refl, λ e. refl, refl)

  pub ack_told : (t m : ℕ) (o : Option Entry) → CoordTells (ack_entry y t m o) (ack_moves t c m o)
  ack_told t m None = (λ s. refl, λ e. refl, refl)
  ack_told t m (Some entry.Idle) = (λ s. refl, λ e. refl, refl)
  ack_told t m (Some (entry.Collecting parts yeses)) = (λ s. refl, λ e. refl, refl)
  ack_told t m (Some (entry.Committed members acks)) = by (has_number members m && not (has_number acks m))
    where
      by : (b : Bool) → CoordTells (if b then ended_by y t members (m ∷ acks) (first_lacking members (m ∷ acks)) else coord_says y answer.Decided)
          (if b then ack_counted_moves t c m (first_lacking members (m ∷ acks)) else [])
      by true = ack_missing t m members (m ∷ acks) (first_lacking members (m ∷ acks))
      by false = (λ s. refl, λ e. refl, refl)

  pub coord_timer_told : (t : ℕ) (o : Option Entry) → CoordTells (timer_entry c y t o) (coord_timer_moves t c o)
  coord_timer_told t None = (λ s. refl, λ e. refl, refl)
  coord_timer_told t (Some entry.Idle) = (λ s. refl, λ e. refl, refl)
  coord_timer_told t (Some (entry.Collecting parts yeses)) = leave_told t cause.Timer parts
  coord_timer_told t (Some (entry.Committed members acks)) = (λ s. refl, λ e. refl, refl)

  pub resend_told : (t : ℕ) (o : Option Entry) → CoordTells (resend_entry c y t o) (resend_moves t c o)
  resend_told t None = (λ s. refl, λ e. refl, refl)
  resend_told t (Some entry.Idle) = (λ s. refl, λ e. refl, refl)
  resend_told t (Some (entry.Collecting parts yeses)) = (λ s. sym (sends_trace (prepares_to c t (parts_lacking parts yeses)) s), λ e. refl, sent_back (prepares_to c t (parts_lacking parts yeses)))
  resend_told t (Some (entry.Committed members acks)) = (λ s. sym (sends_trace (decisions_to c t true (numbers_lacking members acks)) s), λ e. refl, sent_back (decisions_to c t true (numbers_lacking members acks)))

  pub coord_restart_told : (up : Bool) → CoordTells (coord_restart_by y up) (restart_moves (RestartCoord c) up)
  coord_restart_told true = (λ s. refl, λ e. refl, refl)
  coord_restart_told false = (λ s. refl, λ e. refl, refl)

  coord_close_told : (o : Outcome) → CoordTells (coord_close_by y o) (closing_moves (CloseCoordSpare c true) (CrashCoord c) (CloseCoordSpare c) o)
  coord_close_told Completes = (λ s. refl, λ e. refl, refl)
  coord_close_told (StopsAt call leaves) = (λ s. refl, λ e. refl, refl)

  coord_fill_told : (o : Outcome) → CoordTells (coord_fill_by c y (next_generation (generation_of y.log.stable)) o) (written_moves (FillCoordSpare c) (CrashCoord c) [] o)
  coord_fill_told Completes = (λ s. refl, λ e. refl, refl)
  coord_fill_told (StopsAt call leaves) = by (batch_is_stable call leaves)
    where
      by : (b : Bool) → CoordTells (coord_stopped_fill c y (next_generation (generation_of y.log.stable)) call b) (stopped_moves (FillCoordSpare c) (CrashCoord c) b)
      by true = (λ s. refl, λ e. refl, refl)
      by false = (λ s. refl, λ e. refl, refl)

  pub coord_checkpoint_told : (closed : Bool) → CoordTells (coord_checkpoint_by c y closed) (coord_checkpoint_moves y c closed)
  coord_checkpoint_told false = coord_close_told (outcome_of y.log.armed 2)
  coord_checkpoint_told true = coord_fill_told (outcome_of y.log.armed 4)
