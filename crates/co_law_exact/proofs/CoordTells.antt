-- No event of a coordinator sends a vote, gives an answer of the voting rule, or one to an operation.
use Rattle.std.proofs.Common.{◌≡◌, ℕ, Bool, true, false, not, ◌&&◌, if◌then◌else◌, List, [], ◌∷◌, Option, None, Some, refl}
use Rattle.std.specs.List.{list_any}
use Rattle.co_base.specs.declared.part.Part.{Part}
use Rattle.co_message.specs.declared.answer.Answer.{Answer}
use Rattle.co_message.specs.declared.answer.Answer.TheVariants as answer
use Rattle.co_message.specs.declared.answer.Cause.TheVariants as cause
use Rattle.co_message.specs.declared.message.Message.{Message}
use Rattle.co_message.specs.declared.message.Message.TheVariants as message
use Rattle.co_record.specs.declared.record.Record.{Record}
use Rattle.co_record.specs.declared.record.Record.TheVariants as log
use Rattle.co_frame.specs.Gate.{batch_is_stable}
use Rattle.co_state.specs.Table.{look, put, without}
use Rattle.co_plain.specs.declared.coord_state.CoordState.{CoordState}
use Rattle.co_plain.specs.declared.coord_state.Entry.{Entry}
use Rattle.co_plain.specs.declared.coord_state.Entry.TheVariants as entry
use Rattle.co_plain.specs.declared.coord_step.CoordStep.{CoordStep}
use Rattle.co_plain.specs.declared.outcome.Outcome.{Outcome}
use Rattle.co_plain.specs.declared.outcome.Outcome.TheVariants.{Completes, StopsAt}
use Rattle.co_plain.specs.Numbers.{first_lacking, has_number, numbers_lacking, next_generation}
use Rattle.co_plain.specs.LogWrite.{outcome_of, generation_of}
use Rattle.co_plain.specs.CoordStep.{with_table, members_of, has_part, stopped_coord, coord_forced_by, coord_says}
use Rattle.co_plain.specs.Coordinator.{waits, aborts, ask_commit, commit_entry, coord_commit, abort_entry, coord_abort, decided_by, yes_entry, no_entry, ask_entry, ended_by, ack_entry, timer_entry, coord_timer, resend_entry, coord_resend, coord_deliver, decisions_to, prepares_to, parts_lacking}
use Rattle.co_plain.specs.CoordLog.{coord_stopped_fill, coord_fill_by, coord_close_by, coord_checkpoint_by, coord_checkpoint, coord_restart_by, coord_restart}
use Rattle.co_law_exact.proofs.MemberTells.{is_vote, is_told}

-- prepares and decisions are no votes
prepares_lack : (v : Bool) (c t : ℕ) (parts : List Part) → list_any (is_vote v) (prepares_to c t parts) ≡ false
prepares_lack v c t [] = refl
prepares_lack v c t (p ∷ ps) = prepares_lack v c t ps

decisions_lack : (v : Bool) (c t : ℕ) (commit : Bool) (members : List ℕ) → list_any (is_vote v) (decisions_to c t commit members) ≡ false
decisions_lack v c t commit [] = refl
decisions_lack v c t commit (m ∷ ms) = decisions_lack v c t commit ms

module _ (v h b : Bool) where
  abbrev pub Lacks : CoordStep → Type 0
  Lacks did = (list_any (is_vote v) did.sent ≡ false) × (is_told h b did.answer ≡ false)

module _ (v h b : Bool) (c : ℕ) (y : CoordState) where
  forced : (next : CoordState) (batch : List Record) (a : Answer) (notes : List Message) → list_any (is_vote v) notes ≡ false → is_told h b a ≡ false → (o : Outcome) → Lacks v h b (coord_forced_by c next batch a notes o)
  forced next batch a notes p q Completes = (p, q)
  forced next batch a notes p q (StopsAt call leaves) = by (batch_is_stable call leaves)
    where
      by : (k : Bool) → Lacks v h b (stopped_coord c next call k batch)
      by true = (refl, refl)
      by false = (refl, refl)

  asks : (t : ℕ) (parts : List Part) → Lacks v h b (ask_commit c y t parts)
  asks t [] = forced (with_table y (without y.table t)) (log.Commit t [] ∷ []) answer.Committed [] refl refl (outcome_of y.log.armed 4)
  asks t (p ∷ ps) = (prepares_lack v c t (p ∷ ps), refl)

  pub commit_lacks : (t : ℕ) (parts : List Part) → Lacks v h b (coord_commit c y t parts)
  commit_lacks t parts = by (look y.table t)
    where
      by : (o : Option Entry) → Lacks v h b (commit_entry c y t parts o)
      by None = (refl, refl)
      by (Some entry.Idle) = asks t parts
      by (Some (entry.Collecting ps yeses)) = (refl, refl)
      by (Some (entry.Committed ms acks)) = (refl, refl)

  pub abort_lacks : (t : ℕ) (parts : List Part) → Lacks v h b (coord_abort c y t parts)
  abort_lacks t parts = by (look y.table t)
    where
      by : (o : Option Entry) → Lacks v h b (abort_entry c y t parts o)
      by None = (refl, refl)
      by (Some entry.Idle) = (decisions_lack v c t false (members_of parts), refl)
      by (Some (entry.Collecting ps yeses)) = (refl, refl)
      by (Some (entry.Committed ms acks)) = (refl, refl)

  yeses_lack : (t m : ℕ) (o : Option Entry) → Lacks v h b (yes_entry c y t m o)
  yeses_lack t m None = (refl, refl)
  yeses_lack t m (Some entry.Idle) = (refl, refl)
  yeses_lack t m (Some (entry.Committed members acks)) = (refl, refl)
  yeses_lack t m (Some (entry.Collecting parts yeses)) = by (has_part parts m && not (has_number yeses m))
    where
      decided : (o : Option ℕ) → Lacks v h b (decided_by c y t parts (m ∷ yeses) o)
      decided (Some k) = (refl, refl)
      decided None =
          forced (with_table y (put y.table t (entry.Committed (members_of parts) []))) (log.Commit t (members_of parts) ∷ []) answer.Committed (decisions_to c t true (members_of parts))
          (decisions_lack v c t true (members_of parts)) refl (outcome_of y.log.armed 4)

      by : (k : Bool) → Lacks v h b (if k then decided_by c y t parts (m ∷ yeses) (first_lacking (members_of parts) (m ∷ yeses)) else waits y parts yeses)
      by true = decided (first_lacking (members_of parts) (m ∷ yeses))
      by false = (refl, refl)

  noes_lack : (t m : ℕ) (o : Option Entry) → Lacks v h b (no_entry c y t m o)
  noes_lack t m None = (refl, refl)
  noes_lack t m (Some entry.Idle) = (refl, refl)
  noes_lack t m (Some (entry.Committed members acks)) = (refl, refl)
  noes_lack t m (Some (entry.Collecting parts yeses)) = by (has_part parts m)
    where
      by : (k : Bool) → Lacks v h b (if k then aborts c y t cause.Vote parts else waits y parts yeses)
      by true = (decisions_lack v c t false (members_of parts), refl)
      by false = (refl, refl)

  questions_lack : (t m : ℕ) (o : Option Entry) → Lacks v h b (ask_entry c y t m o)
  questions_lack t m None = (refl, refl)
  questions_lack t m (Some entry.Idle) = (refl, refl)
  questions_lack t m (Some (entry.Collecting parts yeses)) = (refl, refl)
  questions_lack t m (Some (entry.Committed members acks)) = (refl, refl)

  acks_lack : (t m : ℕ) (o : Option Entry) → Lacks v h b (ack_entry y t m o)
  acks_lack t m None = (refl, refl)
  acks_lack t m (Some entry.Idle) = (refl, refl)
  acks_lack t m (Some (entry.Collecting parts yeses)) = (refl, refl)
  acks_lack t m (Some (entry.Committed members acks)) = by (has_number members m && not (has_number acks m))
    where
      ended : (o : Option ℕ) → Lacks v h b (ended_by y t members (m ∷ acks) o)
      ended None = (refl, refl)
      ended (Some k) = (refl, refl)

      by : (k : Bool) → Lacks v h b (if k then ended_by y t members (m ∷ acks) (first_lacking members (m ∷ acks)) else coord_says y answer.Decided)
      by true = ended (first_lacking members (m ∷ acks))
      by false = (refl, refl)

  pub deliver_lacks : (note : Message) → Lacks v h b (coord_deliver c y note)
  deliver_lacks (message.Vote t m d true) = yeses_lack t m (look y.table t)
  deliver_lacks (message.Vote t m d false) = noes_lack t m (look y.table t)
  deliver_lacks (message.Ask t m d) = questions_lack t m (look y.table t)
  deliver_lacks (message.Ack t m d) = acks_lack t m (look y.table t)
  deliver_lacks (message.Prepare t d m n) = (refl, refl)
  deliver_lacks (message.Decide t d m commit) = (refl, refl)

  pub timer_lacks : (t : ℕ) → Lacks v h b (coord_timer c y t)
  timer_lacks t = by (look y.table t)
    where
      by : (o : Option Entry) → Lacks v h b (timer_entry c y t o)
      by None = (refl, refl)
      by (Some entry.Idle) = (refl, refl)
      by (Some (entry.Collecting parts yeses)) = (decisions_lack v c t false (members_of parts), refl)
      by (Some (entry.Committed members acks)) = (refl, refl)

  pub resend_lacks : (t : ℕ) → Lacks v h b (coord_resend c y t)
  resend_lacks t = by (look y.table t)
    where
      by : (o : Option Entry) → Lacks v h b (resend_entry c y t o)
      by None = (refl, refl)
      by (Some entry.Idle) = (refl, refl)
      by (Some (entry.Collecting parts yeses)) = (prepares_lack v c t (parts_lacking parts yeses), refl)
      by (Some (entry.Committed members acks)) = (decisions_lack v c t true (numbers_lacking members acks), refl)

  pub checkpoint_lacks : Lacks v h b (coord_checkpoint c y)
  checkpoint_lacks = by y.log.spare_closed
    where
      stopped : (call : ℕ) (k : Bool) → Lacks v h b (coord_stopped_fill c y (next_generation (generation_of y.log.stable)) call k)
      stopped call true = (refl, refl)
      stopped call false = (refl, refl)

      fills : (o : Outcome) → Lacks v h b (coord_fill_by c y (next_generation (generation_of y.log.stable)) o)
      fills Completes = (refl, refl)
      fills (StopsAt call leaves) = stopped call (batch_is_stable call leaves)

      closes : (o : Outcome) → Lacks v h b (coord_close_by y o)
      closes Completes = (refl, refl)
      closes (StopsAt call leaves) = (refl, refl)

      by : (closed : Bool) → Lacks v h b (coord_checkpoint_by c y closed)
      by false = closes (outcome_of y.log.armed 2)
      by true = fills (outcome_of y.log.armed 4)

  pub restart_lacks : Lacks v h b (coord_restart y)
  restart_lacks = by y.up
    where
      by : (up : Bool) → Lacks v h b (coord_restart_by y up)
      by true = (refl, refl)
      by false = (refl, refl)
