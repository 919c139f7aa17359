-- What each event of a coordinator tells of forced records is what its moves force.
use Rattle.std.proofs.Common.{◌≡◌, ℕ, Bool, true, false, not, ◌&&◌, if◌then◌else◌, List, [], ◌∷◌, Option, None, Some, refl, sym, ap, ◌∙◌}
use Rattle.co_base.specs.declared.node.Node.TheVariants as node
use Rattle.co_base.specs.declared.part.Part.{Part}
use Rattle.co_message.specs.declared.answer.Answer.TheVariants as answer
use Rattle.co_message.specs.declared.answer.Cause.{Cause}
use Rattle.co_message.specs.declared.answer.Cause.TheVariants as cause
use Rattle.co_message.specs.declared.message.Message.{Message}
use Rattle.co_record.specs.declared.record.Record.TheVariants as log
use Rattle.co_frame.specs.Gate.{batch_is_stable}
use Rattle.co_state.specs.Table.{put, without}
use Rattle.co_plain.specs.declared.coord_state.CoordState.{CoordState}
use Rattle.co_plain.specs.declared.coord_state.Entry.{Entry}
use Rattle.co_plain.specs.declared.coord_state.Entry.TheVariants as entry
use Rattle.co_plain.specs.declared.coord_step.CoordStep.{CoordStep}
use Rattle.co_plain.specs.declared.outcome.Outcome.{Outcome}
use Rattle.co_plain.specs.declared.outcome.Outcome.TheVariants.{Completes, StopsAt}
use Rattle.co_plain.specs.Numbers.{first_lacking, has_number, numbers_lacking, next_generation}
use Rattle.co_plain.specs.LogWrite.{marks_of, outcome_of, generation_of}
use Rattle.co_plain.specs.CoordStep.{with_table, members_of, has_part, stopped_coord, coord_forced_by, coord_says}
use Rattle.co_plain.specs.Coordinator.{waits, aborts, ask_commit, commit_entry, abort_entry, decided_by, yes_entry, no_entry, ask_entry, ended_by, ack_entry, timer_entry, resend_entry, decisions_to, prepares_to, parts_lacking}
use Rattle.co_plain.specs.CoordLog.{coord_stopped_fill, coord_fill_by, coord_close_by, coord_checkpoint_by, coord_restart_by}
use Rattle.co_plain.specs.Moves.{Move, Decide, CrashCoord, RestartCoord, CloseCoordSpare, FillCoordSpare}
use Rattle.co_law_moves.specs.EventMoves.{sends, written_moves, stopped_moves, closing_moves, restart_moves, decided_at_once, ask_commit_moves, commit_entry_moves, leave_moves, abort_entry_moves, yes_counted_moves, yes_moves, no_moves, ask_moves, ack_counted_moves, ack_moves, coord_timer_moves, resend_moves, coord_checkpoint_moves}
use Rattle.co_law_once.proofs.ForcedMarks.{forced_among, move_marks, Tells, AllWait, batch_told, sends_force, then_sends}

abbrev pub CoordTells : CoordStep → List Move → Type 0
CoordTells did moves = Tells did.marks moves

module _ (c : ℕ) (y : CoordState) (w : AllWait y.log.waiting) where
  deciding : (t : ℕ) (next : CoordState) (members : List ℕ) (notes : List Message) → next.log ≡ y.log → (o : Outcome) →
      CoordTells (coord_forced_by c next (log.Commit t members ∷ []) answer.Committed notes o) (written_moves (Decide t c) (CrashCoord c) (sends notes) o)
  deciding t next members notes same o = by o
    where
      marks : forced_among (marks_of (node.Coord c) (log.Commit t members ∷ next.log.waiting)) ≡ move_marks (Decide t c)
      marks = ap (λ l. forced_among (marks_of (node.Coord c) (log.Commit t members ∷ l.waiting))) same ∙ batch_told (node.Coord c) (log.Commit t members ∷ []) y.log.waiting w

      stopped : (call : ℕ) (b : Bool) → CoordTells (stopped_coord c next call b (log.Commit t members ∷ [])) (stopped_moves (Decide t c) (CrashCoord c) b)
      stopped call true = marks
      stopped call false = refl

      by : (o : Outcome) → CoordTells (coord_forced_by c next (log.Commit t members ∷ []) answer.Committed notes o) (written_moves (Decide t c) (CrashCoord c) (sends notes) o)
      by Completes = marks ∙ then_sends (Decide t c) notes
      by (StopsAt call leaves) = stopped call (batch_is_stable call leaves)

  at_once : (t : ℕ) (o : Outcome) → CoordTells (coord_forced_by c (with_table y (without y.table t)) (log.Commit t [] ∷ []) answer.Committed [] o) (decided_at_once t c o)
  at_once t Completes = deciding t (with_table y (without y.table t)) [] [] refl Completes
  at_once t (StopsAt call leaves) = deciding t (with_table y (without y.table t)) [] [] refl (StopsAt call leaves)

  ask_told : (t : ℕ) (ps : List Part) → CoordTells (ask_commit c y t ps) (ask_commit_moves y t c ps)
  ask_told t [] = at_once t (outcome_of y.log.armed 4)
  ask_told t (p ∷ ps) = sym (sends_force (prepares_to c t (p ∷ ps)))

  pub commit_told : (t : ℕ) (parts : List Part) (o : Option Entry) → CoordTells (commit_entry c y t parts o) (commit_entry_moves y t c parts o)
  commit_told t parts None = refl
  commit_told t parts (Some entry.Idle) = ask_told t parts
  commit_told t parts (Some (entry.Collecting ps yeses)) = refl
  commit_told t parts (Some (entry.Committed ms acks)) = refl

  leave_told : (t : ℕ) (by : Cause) (parts : List Part) → CoordTells (aborts c y t by parts) (leave_moves t c parts)
  leave_told t by parts = sym (sends_force (decisions_to c t false (members_of parts)))

  pub abort_told : (t : ℕ) (parts : List Part) (o : Option Entry) → CoordTells (abort_entry c y t parts o) (abort_entry_moves t c parts o)
  abort_told t parts None = refl
  abort_told t parts (Some entry.Idle) = leave_told t cause.Client parts
  abort_told t parts (Some (entry.Collecting ps yeses)) = refl
  abort_told t parts (Some (entry.Committed ms acks)) = refl

  yes_missing : (t m : ℕ) (parts : List Part) (yeses : List ℕ) (o : Option ℕ) → CoordTells (decided_by c y t parts yeses o) (yes_counted_moves y t c m parts o)
  yes_missing t m parts yeses (Some k) = refl
  yes_missing t m parts yeses None = deciding t (with_table y (put y.table t (entry.Committed (members_of parts) []))) (members_of parts) (decisions_to c t true (members_of parts)) refl (outcome_of y.log.armed 4)

  pub yes_told : (t m : ℕ) (o : Option Entry) → CoordTells (yes_entry c y t m o) (yes_moves y t c m o)
  yes_told t m None = refl
  yes_told t m (Some entry.Idle) = refl
  yes_told t m (Some (entry.Committed members acks)) = refl
  yes_told t m (Some (entry.Collecting parts yeses)) = by (has_part parts m && not (has_number yeses m))
    where
      by : (b : Bool) → CoordTells (if b then decided_by c y t parts (m ∷ yeses) (first_lacking (members_of parts) (m ∷ yeses)) else waits y parts yeses)
          (if b then yes_counted_moves y t c m parts (first_lacking (members_of parts) (m ∷ yeses)) else [])
      by true = yes_missing t m parts (m ∷ yeses) (first_lacking (members_of parts) (m ∷ yeses))
      by false = refl

  pub no_told : (t m : ℕ) (o : Option Entry) → CoordTells (no_entry c y t m o) (no_moves t c m o)
  no_told t m None = refl
  no_told t m (Some entry.Idle) = refl
  no_told t m (Some (entry.Committed members acks)) = refl
  no_told t m (Some (entry.Collecting parts yeses)) = by (has_part parts m)
    where
      by : (b : Bool) → CoordTells (if b then aborts c y t cause.Vote parts else waits y parts yeses) (if b then leave_moves t c parts else [])
      by true = leave_told t cause.Vote parts
      by false = refl

  pub ask_entry_told : (t m : ℕ) (o : Option Entry) → CoordTells (ask_entry c y t m o) (ask_moves t c m o)
  ask_entry_told t m None = refl
  ask_entry_told t m (Some entry.Idle) = refl
  ask_entry_told t m (Some (entry.Collecting parts yeses)) = refl
  ask_entry_told t m (Some (entry.Committed members acks)) = refl

  ack_missing : (t m : ℕ) (members acks : List ℕ) (o : Option ℕ) → CoordTells (ended_by y t members acks o) (ack_counted_moves t c m o)
  ack_missing t m members acks (Some k) = refl
  ack_missing t m members acks None = refl

  pub ack_told : (t m : ℕ) (o : Option Entry) → CoordTells (ack_entry y t m o) (ack_moves t c m o)
  ack_told t m None = refl
  ack_told t m (Some entry.Idle) = refl
  ack_told t m (Some (entry.Collecting parts yeses)) = refl
  ack_told t m (Some (entry.Committed members acks)) = by (has_number members m && not (has_number acks m))
    where
      by : (b : Bool) → CoordTells (if b then ended_by y t members (m ∷ acks) (first_lacking members (m ∷ acks)) else coord_says y answer.Decided)
          (if b then ack_counted_moves t c m (first_lacking members (m ∷ acks)) else [])
      by true = ack_missing t m members (m ∷ acks) (first_lacking members (m ∷ acks))
      by false = refl

  pub timer_told : (t : ℕ) (o : Option Entry) → CoordTells (timer_entry c y t o) (coord_timer_moves t c o)
  timer_told t None = refl
  timer_told t (Some entry.Idle) = refl
  timer_told t (Some (entry.Collecting parts yeses)) = leave_told t cause.Timer parts
  timer_told t (Some (entry.Committed members acks)) = refl

  pub resend_told : (t : ℕ) (o : Option Entry) → CoordTells (resend_entry c y t o) (resend_moves t c o)
  resend_told t None = refl
  resend_told t (Some entry.Idle) = refl
  resend_told t (Some (entry.Collecting parts yeses)) = sym (sends_force (prepares_to c t (parts_lacking parts yeses)))
  resend_told t (Some (entry.Committed members acks)) = sym (sends_force (decisions_to c t true (numbers_lacking members acks)))

  pub restart_told : (up : Bool) → CoordTells (coord_restart_by y up) (restart_moves (RestartCoord c) up)
  restart_told true = refl
  restart_told false = refl

  close_told : (o : Outcome) → CoordTells (coord_close_by y o) (closing_moves (CloseCoordSpare c true) (CrashCoord c) (CloseCoordSpare c) o)
  close_told Completes = refl
  close_told (StopsAt call leaves) = refl

  fill_told : (o : Outcome) → CoordTells (coord_fill_by c y (next_generation (generation_of y.log.stable)) o) (written_moves (FillCoordSpare c) (CrashCoord c) [] o)
  fill_told Completes = refl
  fill_told (StopsAt call leaves) = by (batch_is_stable call leaves)
    where
      by : (b : Bool) → CoordTells (coord_stopped_fill c y (next_generation (generation_of y.log.stable)) call b) (stopped_moves (FillCoordSpare c) (CrashCoord c) b)
      by true = refl
      by false = refl

  pub checkpoint_told : (closed : Bool) → CoordTells (coord_checkpoint_by c y closed) (coord_checkpoint_moves y c closed)
  checkpoint_told false = close_told (outcome_of y.log.armed 2)
  checkpoint_told true = fill_told (outcome_of y.log.armed 4)
