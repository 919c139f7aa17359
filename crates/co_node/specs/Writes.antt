-- The log writes of a node, as plain data, and how they end.
use Rattle.std.specs.Prelude.{ℕ, ◌≡◌, if◌then◌else◌, List, [], ◌∷◌, ◌++◌, true, Result, Ok, Err}
use Rattle.co_base.specs.declared.leaves.Leaves.{Leaves}
use Rattle.co_base.specs.declared.mark.Mark.{Mark}
use Rattle.co_base.specs.declared.node.Node.{Node}
use Rattle.co_record.specs.declared.record.Record.{Record}
use Rattle.co_record.specs.declared.record.Record.TheVariants as log
use Rattle.co_frame.specs.Gate.{batch_is_stable, closes_spare}
use Rattle.co_log.specs.LogView.{LogView}
use Rattle.co_log.specs.declared.fault.NodeFault.{NodeFault}
use Rattle.co_plain.specs.declared.log_state.LogState.{LogState}
use Rattle.co_plain.specs.declared.outcome.Outcome.TheVariants.{Completes, StopsAt}
use Rattle.co_plain.specs.LogWrite.{outcome_of, with_batch, with_spare, with_filled_spare, crashed_log, marks_of, checkpoint_marks, generation_of}
use Rattle.co_plain.specs.Numbers.{next_generation}
use Rattle.co_node.specs.NodeLog.{RepresentsLog}
use Rattle.co_node.specs.declared.written.Written.{Written}
use Rattle.co_node.specs.declared.written.Written.TheVariants.{Done, Stopped}

-- How many device calls a log write makes; what it leaves and what it tells where all are done; and where it is stopped
-- in one of them with this image, before the crash takes what is in memory.
pub record LogWrite : Type 0 where
  pub calls : ℕ
  pub done : LogState
  pub marks : List Mark
  pub stopped : ℕ → Leaves → LogState
  pub told : ℕ → Leaves → List Mark

-- the waiting records and these, newest first, are forced
abbrev pub forcing : Node → LogState → List Record → LogWrite
forcing owner l batch =
    record {
      calls = 4;
      done = with_batch l batch;
      marks = marks_of owner (batch ++ l.waiting);
      stopped = λ call leaves. if batch_is_stable call leaves then with_batch l batch else l;
      told = λ call leaves. if batch_is_stable call leaves then marks_of owner (batch ++ l.waiting) else [];
    }

-- the spare file is closed
abbrev pub closing : LogState → LogWrite
closing l =
    record {
      calls = 2;
      done = with_spare l true;
      marks = [];
      stopped = λ call leaves. with_spare l (closes_spare leaves);
      told = λ call leaves. [];
    }

-- these records of the next generation, newest first, and its header in front
abbrev pub filled_with : Node → LogState → List Record → List Record
filled_with owner l records = records ++ log.Header owner (next_generation (generation_of l.stable)) ∷ []

-- the spare file is filled with these records, newest first, behind a header of the next generation
abbrev pub filling : Node → LogState → List Record → LogWrite
filling owner l records =
    record {
      calls = 4;
      done = with_filled_spare l (filled_with owner l records);
      marks = checkpoint_marks owner (next_generation (generation_of l.stable));
      stopped = λ call leaves. if batch_is_stable call leaves then with_filled_spare l (filled_with owner l records) else l;
      told = λ call leaves. if batch_is_stable call leaves then checkpoint_marks owner (next_generation (generation_of l.stable)) else [];
    }

-- A log write ended as the armed stop says: it was done, or stopped in the armed device call, and the log stands for
-- what that leaves of the plain log. After a fault of the node nothing is said of the log, which is only dropped.
abbrev pub HasWritten : LogWrite → Node → LogState → LogView → Result Written NodeFault → Type 0
HasWritten w owner l after (Ok (Done marks)) = (outcome_of l.armed w.calls ≡ Completes) × (marks ≡ w.marks) × RepresentsLog owner after w.done
HasWritten w owner l after (Ok (Stopped call marks)) =
    (leaves : Leaves) × (outcome_of l.armed w.calls ≡ StopsAt call leaves) × (marks ≡ w.told call leaves)
    × RepresentsLog owner after (crashed_log (w.stopped call leaves))
HasWritten w owner l after (Err e) = Unit {0}
