-- A coordinator's log apart from decisions: checkpoints, crashes, restarts and armed stops.
use Rattle.std.specs.Prelude.{ℕ, Bool, true, false, List, [], ◌∷◌, Some}
use Rattle.std.specs.FinMap.{entries}
use Rattle.co_base.specs.declared.leaves.Leaves.{Leaves}
use Rattle.co_base.specs.declared.node.Node.TheVariants as node
use Rattle.co_message.specs.declared.answer.Answer.TheVariants as answer
use Rattle.co_record.specs.declared.record.Record.{Record}
use Rattle.co_record.specs.declared.record.Record.TheVariants as log
use Rattle.co_plain.specs.declared.coord_state.CoordState.{CoordState}
use Rattle.co_plain.specs.declared.coord_state.Entry.{Entry}
use Rattle.co_plain.specs.declared.coord_state.Entry.TheVariants as entry
use Rattle.co_plain.specs.declared.outcome.Outcome.{Outcome}
use Rattle.co_plain.specs.declared.outcome.Outcome.TheVariants.{Completes, StopsAt}
use Rattle.co_plain.specs.Numbers.{TxnNumber, CoordNumber, Generation, CallNumber, next_generation}
use Rattle.co_plain.specs.LogWrite.{outcome_of, with_filled_spare, with_spare, with_stop, checkpoint_marks, generation_of}
use Rattle.co_frame.specs.Gate.{batch_is_stable, closes_spare}
use Rattle.co_plain.specs.declared.coord_step.CoordStep.{CoordStep}
use Rattle.co_plain.specs.CoordStep.{coord_says, with_coord_log, coord_down}

abbrev pub commit_onto : List Record → TxnNumber → Entry → List Record
commit_onto records t entry.Idle = records
commit_onto records t (entry.Collecting parts yeses) = records
commit_onto records t (entry.Committed members acks) = log.Commit t members ∷ records

abbrev pub commits_onto : List Record → List (ℕ × Entry) → List Record
commits_onto records [] = records
commits_onto records (e ∷ es) = commits_onto (commit_onto records e.0 e.1) es

-- What a filled spare holds, newest first: a header, and a commit record for each committed transaction of
-- the table, ascending.
abbrev pub coord_spare : CoordNumber → CoordState → Generation → List Record
coord_spare c x generation = commits_onto (log.Header (node.Coord c) generation ∷ []) (entries x.table)

abbrev pub coord_stopped_fill : CoordNumber → CoordState → Generation → CallNumber → Bool → CoordStep
coord_stopped_fill c x generation call true =
    record {
      state = coord_down (with_filled_spare x.log (coord_spare c x generation));
      answer = answer.Stopped call;
      sent = [];
      marks = checkpoint_marks (node.Coord c) generation;
    }
coord_stopped_fill c x generation call false =
    record { state = coord_down x.log; answer = answer.Stopped call; sent = []; marks = [] }

abbrev pub coord_fill_by : CoordNumber → CoordState → Generation → Outcome → CoordStep
coord_fill_by c x generation Completes =
    record {
      state = with_coord_log x (with_filled_spare x.log (coord_spare c x generation));
      answer = answer.Filled generation;
      sent = [];
      marks = checkpoint_marks (node.Coord c) generation;
    }
coord_fill_by c x generation (StopsAt call leaves) = coord_stopped_fill c x generation call (batch_is_stable call leaves)

abbrev pub coord_close_by : CoordState → Outcome → CoordStep
coord_close_by x Completes = coord_says (with_coord_log x (with_spare x.log true)) answer.Closed
coord_close_by x (StopsAt call leaves) = coord_says (coord_down (with_spare x.log (closes_spare leaves))) (answer.Stopped call)

abbrev pub coord_checkpoint_by : CoordNumber → CoordState → Bool → CoordStep
coord_checkpoint_by c x false = coord_close_by x (outcome_of x.log.armed 2)
coord_checkpoint_by c x true = coord_fill_by c x (next_generation (generation_of x.log.stable)) (outcome_of x.log.armed 4)

abbrev pub coord_checkpoint : CoordNumber → CoordState → CoordStep
coord_checkpoint c x = coord_checkpoint_by c x x.log.spare_closed

abbrev pub coord_crash : CoordState → CoordStep
coord_crash x = coord_says (coord_down x.log) answer.Crashed

abbrev pub coord_restart_by : CoordState → Bool → CoordStep
coord_restart_by x true = coord_says x answer.Running
coord_restart_by x false = coord_says (record x { up = true }) answer.Up

abbrev pub coord_restart : CoordState → CoordStep
coord_restart x = coord_restart_by x x.up

abbrev pub coord_arm : CoordState → CallNumber → Leaves → CoordStep
coord_arm x call leaves = coord_says (with_coord_log x (with_stop x.log (Some (record { call = call; leaves = leaves })))) answer.Armed
