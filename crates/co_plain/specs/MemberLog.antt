-- A member's log apart from votes and decisions: checkpoints, crashes, restarts and armed stops.
use Rattle.std.specs.Prelude.{ℕ, Bool, true, false, List, [], ◌∷◌, None, Some}
use Rattle.std.specs.FinMap.{entries, keys}
use Rattle.co_base.specs.declared.leaves.Leaves.{Leaves}
use Rattle.co_base.specs.declared.node.Node.TheVariants as node
use Rattle.co_message.specs.declared.answer.Answer.TheVariants as answer
use Rattle.co_record.specs.declared.record.Record.{Record}
use Rattle.co_record.specs.declared.record.Record.TheVariants as log
use Rattle.co_state.specs.declared.engine_state.Vote.{Vote}
use Rattle.co_state.specs.Effects.{dumped_rows, dumped_undos}
use Rattle.co_plain.specs.declared.member_state.MemberState.{MemberState}
use Rattle.co_plain.specs.declared.outcome.Outcome.{Outcome}
use Rattle.co_plain.specs.declared.outcome.Outcome.TheVariants.{Completes, StopsAt}
use Rattle.co_plain.specs.Numbers.{MemberNumber, Generation, CallNumber, next_generation}
use Rattle.co_plain.specs.LogWrite.{outcome_of, with_filled_spare, with_spare, with_stop, checkpoint_marks, generation_of}
use Rattle.co_frame.specs.Gate.{batch_is_stable, closes_spare}
use Rattle.co_plain.specs.declared.member_step.MemberStep.{MemberStep}
use Rattle.co_plain.specs.MemberStep.{says, with_log, member_down}
use Rattle.co_plain.specs.Member.{prepare_record}

-- the prepare records of these voted transactions on top of other records, the last one newest
abbrev pub prepares_onto : List Record → List (ℕ × Vote) → List Record
prepares_onto records [] = records
prepares_onto records (e ∷ es) = prepares_onto (prepare_record e.0 e.1.coord e.1.count e.1.sets ∷ records) es

-- What a filled spare holds, newest first: a header, the checkpoint, and a prepare record for each voted
-- transaction, ascending.
abbrev pub member_spare : MemberNumber → MemberState → Generation → List Record
member_spare m x generation =
    prepares_onto
    (log.Checkpoint (dumped_rows x.engine.kind x.engine) (dumped_undos x.engine.kind x.engine) (keys x.committed)
    ∷ log.Header (node.Member m) generation ∷ [])
    (entries x.engine.voted)

-- the spare is filled
abbrev pub stopped_fill : MemberNumber → MemberState → Generation → CallNumber → Bool → MemberStep
stopped_fill m x generation call true =
    record {
      state = member_down x (with_filled_spare x.log (member_spare m x generation));
      answer = answer.Stopped call;
      sent = None;
      marks = checkpoint_marks (node.Member m) generation;
    }
stopped_fill m x generation call false =
    record { state = member_down x x.log; answer = answer.Stopped call; sent = None; marks = [] }

abbrev pub fill_by : MemberNumber → MemberState → Generation → Outcome → MemberStep
fill_by m x generation Completes =
    record {
      state = with_log x (with_filled_spare x.log (member_spare m x generation));
      answer = answer.Filled generation;
      sent = None;
      marks = checkpoint_marks (node.Member m) generation;
    }
fill_by m x generation (StopsAt call leaves) = stopped_fill m x generation call (batch_is_stable call leaves)

-- the spare is closed, in two device calls
abbrev pub close_by : MemberState → Outcome → MemberStep
close_by x Completes = says (with_log x (with_spare x.log true)) answer.Closed
close_by x (StopsAt call leaves) = says (member_down x (with_spare x.log (closes_spare leaves))) (answer.Stopped call)

-- one step of a checkpoint: first the spare is closed, and then filled
abbrev pub checkpoint_by : MemberNumber → MemberState → Bool → MemberStep
checkpoint_by m x false = close_by x (outcome_of x.log.armed 2)
checkpoint_by m x true = fill_by m x (next_generation (generation_of x.log.stable)) (outcome_of x.log.armed 4)

abbrev pub member_checkpoint : MemberNumber → MemberState → MemberStep
member_checkpoint m x = checkpoint_by m x x.log.spare_closed

-- a crash between two log writes
abbrev pub member_crash : MemberState → MemberStep
member_crash x = says (member_down x x.log) answer.Crashed

-- a restart: the state is what the log tells already
abbrev pub restart_by : MemberState → Bool → MemberStep
restart_by x true = says x answer.Running
restart_by x false =
    says (record x { up = true }) answer.Up

abbrev pub member_restart : MemberState → MemberStep
member_restart x = restart_by x x.up

-- the next log write stops in this device call; an earlier armed stop is replaced
abbrev pub member_arm : MemberState → CallNumber → Leaves → MemberStep
member_arm x call leaves = says (with_log x (with_stop x.log (Some (record { call = call; leaves = leaves })))) answer.Armed
