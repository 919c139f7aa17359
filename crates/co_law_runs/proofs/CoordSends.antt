-- A coordinator sends no votes.
use Rattle.std.proofs.Common.{ℕ, Bool, true, false, not, ◌&&◌, if◌then◌else◌, List, [], ◌∷◌, Option, None, Some}
use Rattle.co_base.specs.declared.part.Part.{Part}
use Rattle.co_message.specs.declared.answer.Answer.{Answer}
use Rattle.co_message.specs.declared.answer.Answer.TheVariants as answer
use Rattle.co_message.specs.declared.answer.Cause.TheVariants as cause
use Rattle.co_message.specs.declared.message.Message.{Message}
use Rattle.co_message.specs.declared.message.Message.TheVariants as message
use Rattle.co_record.specs.declared.record.Record.{Record}
use Rattle.co_record.specs.declared.record.Record.TheVariants as log
use Rattle.co_frame.specs.Gate.{batch_is_stable}
use Rattle.co_state.specs.Table.{look, put, without}
use Rattle.co_plain.specs.declared.coord_state.CoordState.{CoordState}
use Rattle.co_plain.specs.declared.coord_state.Entry.{Entry}
use Rattle.co_plain.specs.declared.coord_state.Entry.TheVariants as entry
use Rattle.co_plain.specs.declared.outcome.Outcome.{Outcome}
use Rattle.co_plain.specs.declared.outcome.Outcome.TheVariants.{Completes, StopsAt}
use Rattle.co_plain.specs.Numbers.{first_lacking, has_number, numbers_lacking, next_generation}
use Rattle.co_plain.specs.LogWrite.{outcome_of, generation_of}
use Rattle.co_plain.specs.CoordStep.{coord_says, with_table, members_of, has_part, stopped_coord, coord_forced_by, force_coord}
use Rattle.co_plain.specs.Coordinator.{prepares_to, decisions_to, parts_lacking, ask_commit, commit_entry, coord_commit, aborts, abort_entry, coord_abort, waits, decided_by, yes_entry, no_entry, coord_vote, ask_entry, coord_ask, ended_by, ack_entry, coord_ack, timer_entry, coord_timer, resend_entry, coord_resend}
use Rattle.co_plain.specs.CoordLog.{coord_stopped_fill, coord_fill_by, coord_close_by, coord_checkpoint_by, coord_checkpoint, coord_restart_by, coord_restart}

abbrev pub NoVotes : List Message → Type 0
NoVotes [] = Unit {0}
NoVotes (message.Vote t m c granted ∷ notes) = ⊥
NoVotes (message.Prepare t c m n ∷ notes) = NoVotes notes
NoVotes (message.Decide t c m commit ∷ notes) = NoVotes notes
NoVotes (message.Ask t m c ∷ notes) = NoVotes notes
NoVotes (message.Ack t m c ∷ notes) = NoVotes notes

no_prepares : (c t : ℕ) (parts : List Part) → NoVotes (prepares_to c t parts)
no_prepares c t [] = tt
no_prepares c t (p ∷ ps) = no_prepares c t ps

no_decisions : (c t : ℕ) (commit : Bool) (members : List ℕ) → NoVotes (decisions_to c t commit members)
no_decisions c t commit [] = tt
no_decisions c t commit (m ∷ ms) = no_decisions c t commit ms

module _ (c : ℕ) (y : CoordState) where
  coord_forced : (next : CoordState) (batch : List Record) (a : Answer) (notes : List Message) → NoVotes notes → NoVotes (force_coord c next batch a notes).sent
  coord_forced next batch a notes h = by (outcome_of next.log.armed 4)
    where
      stopped : (call : ℕ) (b : Bool) → NoVotes (stopped_coord c next call b batch).sent
      stopped call true = tt
      stopped call false = tt

      by : (o : Outcome) → NoVotes (coord_forced_by c next batch a notes o).sent
      by Completes = h
      by (StopsAt call leaves) = stopped call (batch_is_stable call leaves)

  pub asks : (t : ℕ) (parts : List Part) → NoVotes (coord_commit c y t parts).sent
  asks t parts = by (look y.table t)
    where
      asked : (ps : List Part) → NoVotes (ask_commit c y t ps).sent
      asked [] = coord_forced (with_table y (without y.table t)) (log.Commit t [] ∷ []) answer.Committed [] tt
      asked (p ∷ ps) = no_prepares c t ps

      by : (o : Option Entry) → NoVotes (commit_entry c y t parts o).sent
      by None = tt
      by (Some entry.Idle) = asked parts
      by (Some (entry.Collecting ps yeses)) = tt
      by (Some (entry.Committed ms acks)) = tt

  pub coord_aborts : (t : ℕ) (parts : List Part) → NoVotes (coord_abort c y t parts).sent
  coord_aborts t parts = by (look y.table t)
    where
      by : (o : Option Entry) → NoVotes (abort_entry c y t parts o).sent
      by None = tt
      by (Some entry.Idle) = no_decisions c t false (members_of parts)
      by (Some (entry.Collecting ps yeses)) = tt
      by (Some (entry.Committed ms acks)) = tt

  pub coord_votes : (t m : ℕ) (granted : Bool) → NoVotes (coord_vote c y t m granted).sent
  coord_votes t m true = by (look y.table t)
    where
      counts : (parts : List Part) (yeses : List ℕ) (lacking : Option ℕ) → NoVotes (decided_by c y t parts yeses lacking).sent
      counts parts yeses (Some k) = tt
      counts parts yeses None =
          coord_forced (with_table y (put y.table t (entry.Committed (members_of parts) []))) (log.Commit t (members_of parts) ∷ []) answer.Committed
          (decisions_to c t true (members_of parts)) (no_decisions c t true (members_of parts))

      counted' : (parts : List Part) (yeses : List ℕ) (b : Bool) →
          NoVotes (if b then decided_by c y t parts (m ∷ yeses) (first_lacking (members_of parts) (m ∷ yeses)) else waits y parts yeses).sent
      counted' parts yeses true = counts parts (m ∷ yeses) (first_lacking (members_of parts) (m ∷ yeses))
      counted' parts yeses false = tt

      by : (o : Option Entry) → NoVotes (yes_entry c y t m o).sent
      by None = tt
      by (Some entry.Idle) = tt
      by (Some (entry.Collecting parts yeses)) = counted' parts yeses (has_part parts m && not (has_number yeses m))
      by (Some (entry.Committed ms acks)) = tt
  coord_votes t m false = by (look y.table t)
    where
      counted' : (parts : List Part) (yeses : List ℕ) (b : Bool) → NoVotes (if b then aborts c y t cause.Vote parts else waits y parts yeses).sent
      counted' parts yeses true = no_decisions c t false (members_of parts)
      counted' parts yeses false = tt

      by : (o : Option Entry) → NoVotes (no_entry c y t m o).sent
      by None = tt
      by (Some entry.Idle) = tt
      by (Some (entry.Collecting parts yeses)) = counted' parts yeses (has_part parts m)
      by (Some (entry.Committed ms acks)) = tt

  pub coord_questions : (t m : ℕ) → NoVotes (coord_ask c y t m).sent
  coord_questions t m = by (look y.table t)
    where
      by : (o : Option Entry) → NoVotes (ask_entry c y t m o).sent
      by None = tt
      by (Some entry.Idle) = tt
      by (Some (entry.Collecting parts yeses)) = tt
      by (Some (entry.Committed ms acks)) = tt

  pub coord_acks : (t m : ℕ) → NoVotes (coord_ack y t m).sent
  coord_acks t m = by (look y.table t)
    where
      ended : (ms acks : List ℕ) (lacking : Option ℕ) → NoVotes (ended_by y t ms acks lacking).sent
      ended ms acks (Some k) = tt
      ended ms acks None = tt

      counted' : (ms acks : List ℕ) (b : Bool) → NoVotes (if b then ended_by y t ms (m ∷ acks) (first_lacking ms (m ∷ acks)) else coord_says y answer.Decided).sent
      counted' ms acks true = ended ms (m ∷ acks) (first_lacking ms (m ∷ acks))
      counted' ms acks false = tt

      by : (o : Option Entry) → NoVotes (ack_entry y t m o).sent
      by None = tt
      by (Some entry.Idle) = tt
      by (Some (entry.Collecting parts yeses)) = tt
      by (Some (entry.Committed ms acks)) = counted' ms acks (has_number ms m && not (has_number acks m))

  pub coord_times : (t : ℕ) → NoVotes (coord_timer c y t).sent
  coord_times t = by (look y.table t)
    where
      by : (o : Option Entry) → NoVotes (timer_entry c y t o).sent
      by None = tt
      by (Some entry.Idle) = tt
      by (Some (entry.Collecting parts yeses)) = no_decisions c t false (members_of parts)
      by (Some (entry.Committed ms acks)) = tt

  pub coord_resends : (t : ℕ) → NoVotes (coord_resend c y t).sent
  coord_resends t = by (look y.table t)
    where
      by : (o : Option Entry) → NoVotes (resend_entry c y t o).sent
      by None = tt
      by (Some entry.Idle) = tt
      by (Some (entry.Collecting parts yeses)) = no_prepares c t (parts_lacking parts yeses)
      by (Some (entry.Committed ms acks)) = no_decisions c t true (numbers_lacking ms acks)

  pub coord_restarts : NoVotes (coord_restart y).sent
  coord_restarts = by y.up
    where
      by : (b : Bool) → NoVotes (coord_restart_by y b).sent
      by true = tt
      by false = tt

  pub coord_checks : NoVotes (coord_checkpoint c y).sent
  coord_checks = by y.log.spare_closed
    where
      stopped : (generation call : ℕ) (b : Bool) → NoVotes (coord_stopped_fill c y generation call b).sent
      stopped generation call true = tt
      stopped generation call false = tt

      fills : (generation : ℕ) (o : Outcome) → NoVotes (coord_fill_by c y generation o).sent
      fills generation Completes = tt
      fills generation (StopsAt call leaves) = stopped generation call (batch_is_stable call leaves)

      closes : (o : Outcome) → NoVotes (coord_close_by y o).sent
      closes Completes = tt
      closes (StopsAt call leaves) = tt

      by : (b : Bool) → NoVotes (coord_checkpoint_by c y b).sent
      by false = closes (outcome_of y.log.armed 2)
      by true = fills (next_generation (generation_of y.log.stable)) (outcome_of y.log.armed 4)
