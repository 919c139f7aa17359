-- A step of one member: its state after, its answer, at most one message, and what became stable.
use Rattle.std.specs.Prelude.{Bool, true, false, List, [], ◌++◌, Option, None, Some}
use Rattle.co_base.specs.declared.head.Kind.{Kind}
use Rattle.co_base.specs.declared.node.Node.TheVariants as node
use Rattle.co_message.specs.declared.answer.Answer.{Answer}
use Rattle.co_message.specs.declared.answer.Answer.TheVariants as answer
use Rattle.co_message.specs.declared.message.Message.{Message}
use Rattle.co_record.specs.declared.record.Record.{Record}
use Rattle.co_state.specs.declared.engine_state.EngineState.{EngineState}
use Rattle.co_state.specs.Table.{no_entries, without, holds}
use Rattle.co_state.specs.Effects.{after_drop}
use Rattle.co_plain.specs.declared.member_state.MemberState.{MemberState}
use Rattle.co_plain.specs.declared.log_state.LogState.{LogState}
use Rattle.co_plain.specs.declared.member_step.MemberStep.{MemberStep}
use Rattle.co_plain.specs.declared.standing.Standing.{Standing}
use Rattle.co_plain.specs.declared.standing.Standing.TheVariants.{IsActive, IsVoted, IsInstalled, IsAbsent}
use Rattle.co_plain.specs.declared.outcome.Outcome.{Outcome}
use Rattle.co_plain.specs.declared.outcome.Outcome.TheVariants.{Completes, StopsAt}
use Rattle.co_plain.specs.Numbers.{TxnNumber, MemberNumber, CallNumber}
use Rattle.co_plain.specs.LogWrite.{outcome_of, with_batch, crashed_log, marks_of}
use Rattle.co_frame.specs.Gate.{batch_is_stable}
use Rattle.co_plain.specs.declared.member_view.MemberView.{MemberView}
use Rattle.co_plain.specs.MemberView.{recovered_view, engine_from}

-- only an answer
abbrev pub says : MemberState → Answer → MemberStep
says x a = record { state = x; answer = a; sent = None; marks = [] }

-- an answer and a message
abbrev pub says_and_sends : MemberState → Answer → Message → MemberStep
says_and_sends x a message = record { state = x; answer = a; sent = Some message; marks = [] }

-- where a transaction stands at a member
abbrev pub standing_by : Bool → Bool → Bool → Standing
standing_by true voted committed = IsActive
standing_by false true committed = IsVoted
standing_by false false true = IsInstalled
standing_by false false false = IsAbsent

abbrev pub standing_of : MemberState → TxnNumber → Standing
standing_of x t = standing_by (holds x.engine.active t) (holds x.engine.voted t) (holds x.committed t)

-- The member goes down. What is left is what its stable records tell: no active transaction, no asked
-- mark, no waiting record and no armed stop.
abbrev pub member_from : Kind → LogState → MemberView → MemberState
member_from kind l v =
    record { up = false; engine = engine_from kind v; committed = v.committed; asked = no_entries; log = l }

abbrev pub member_down_with : Kind → LogState → MemberState
member_down_with kind l = member_from kind (crashed_log l) (recovered_view l.stable)

abbrev pub member_down : MemberState → LogState → MemberState
member_down x l = member_down_with x.engine.kind l

-- the same member with another log
abbrev pub with_log : MemberState → LogState → MemberState
with_log x l = record x { log = l }

-- the same member with another engine state
abbrev pub with_engine : MemberState → EngineState → MemberState
with_engine x b = record x { engine = b }

-- an undecided transaction is forgotten, with its asked mark
abbrev pub dropped : MemberState → TxnNumber → MemberState
dropped x t = record x { engine = after_drop x.engine t; asked = without x.asked t }

-- A stopped write of a batch: the completed write and a crash where the batch counts, else the crash alone.
abbrev pub stopped_member : MemberNumber → MemberState → CallNumber → Bool → List Record → MemberStep
stopped_member m next call true batch =
    record {
      state = member_down next (with_batch next.log batch);
      answer = answer.Stopped call;
      sent = None;
      marks = marks_of (node.Member m) (batch ++ next.log.waiting);
    }
stopped_member m next call false batch =
    record { state = member_down next next.log; answer = answer.Stopped call; sent = None; marks = [] }

-- The batch of the waiting records and these, newest first, is forced. The state that is given is the one to
-- follow, with the log as it was. It follows, with the answer and the message, where the write completes.
abbrev pub forced_by : MemberNumber → MemberState → List Record → Answer → Option Message → Outcome → MemberStep
forced_by m next batch a message Completes =
    record {
      state = with_log next (with_batch next.log batch);
      answer = a;
      sent = message;
      marks = marks_of (node.Member m) (batch ++ next.log.waiting);
    }
forced_by m next batch a message (StopsAt call leaves) = stopped_member m next call (batch_is_stable call leaves) batch

abbrev pub force_member : MemberNumber → MemberState → List Record → Answer → Option Message → MemberStep
force_member m next batch a message = forced_by m next batch a message (outcome_of next.log.armed 4)
