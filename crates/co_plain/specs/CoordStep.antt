-- A step of one coordinator: its state after, its answer, the messages it sends, and what became stable.
use Rattle.std.specs.Prelude.{ℕ, Bool, true, false, List, [], ◌∷◌, ◌++◌, map, ◌==◌}
use Rattle.std.specs.FinMap.{entries}
use Rattle.std.specs.List.{list_any}
use Rattle.co_base.specs.declared.node.Node.TheVariants as node
use Rattle.co_base.specs.declared.part.Part.{Part}
use Rattle.co_message.specs.declared.answer.Answer.{Answer}
use Rattle.co_message.specs.declared.answer.Answer.TheVariants as answer
use Rattle.co_message.specs.declared.message.Message.{Message}
use Rattle.co_record.specs.declared.record.Record.{Record}
use Rattle.co_state.specs.Table.{Table, no_entries, put}
use Rattle.co_plain.specs.declared.coord_state.CoordState.{CoordState}
use Rattle.co_plain.specs.declared.coord_step.CoordStep.{CoordStep}
use Rattle.co_plain.specs.declared.coord_state.Entry.{Entry}
use Rattle.co_plain.specs.declared.coord_state.Entry.TheVariants as entry
use Rattle.co_plain.specs.declared.log_state.LogState.{LogState}
use Rattle.co_plain.specs.declared.outcome.Outcome.{Outcome}
use Rattle.co_plain.specs.declared.outcome.Outcome.TheVariants.{Completes, StopsAt}
use Rattle.co_plain.specs.Numbers.{MemberNumber, CoordNumber, CallNumber}
use Rattle.co_plain.specs.LogWrite.{outcome_of, with_batch, crashed_log, marks_of}
use Rattle.co_frame.specs.Gate.{batch_is_stable}
use Rattle.co_plain.specs.declared.coord_view.CoordView.{CoordView}
use Rattle.co_plain.specs.CoordView.{recovered_commits}

abbrev pub coord_says : CoordState → Answer → CoordStep
coord_says x a = record { state = x; answer = a; sent = []; marks = [] }

abbrev pub coord_sends : CoordState → Answer → List Message → CoordStep
coord_sends x a messages = record { state = x; answer = a; sent = messages; marks = [] }

abbrev pub with_table : CoordState → Table Entry → CoordState
with_table x table = record x { table = table }

abbrev pub with_coord_log : CoordState → LogState → CoordState
with_coord_log x l = record x { log = l }

-- whether the member takes part
abbrev pub has_part : List Part → MemberNumber → Bool
has_part parts m = list_any (λ p. p.member == m) parts

abbrev pub members_of : List Part → List ℕ
members_of parts = map (λ p. p.member) parts

-- the commits that a log tells, none of them acknowledged
abbrev pub table_onto : Table Entry → List (ℕ × List ℕ) → Table Entry
table_onto table [] = table
table_onto table (e ∷ es) = table_onto (put table e.0 (entry.Committed e.1 [])) es

abbrev pub table_from : List (ℕ × List ℕ) → Table Entry
table_from es = table_onto no_entries es

-- the coordinator goes down: what is left is what its stable records tell
abbrev pub coord_from : LogState → CoordView → CoordState
coord_from l v = record { up = false; table = table_from (entries v.unended); log = l }

abbrev pub coord_down : LogState → CoordState
coord_down l = coord_from (crashed_log l) (recovered_commits l.stable)

-- a stopped write of a batch: the completed write and a crash where the batch counts, else the crash alone
abbrev pub stopped_coord : CoordNumber → CoordState → CallNumber → Bool → List Record → CoordStep
stopped_coord c next call true batch =
    record {
      state = coord_down (with_batch next.log batch);
      answer = answer.Stopped call;
      sent = [];
      marks = marks_of (node.Coord c) (batch ++ next.log.waiting);
    }
stopped_coord c next call false batch =
    record { state = coord_down next.log; answer = answer.Stopped call; sent = []; marks = [] }

-- The batch of the waiting records and these, newest first, is forced. The state that is given is the one to
-- follow, with the log as it was.
abbrev pub coord_forced_by : CoordNumber → CoordState → List Record → Answer → List Message → Outcome → CoordStep
coord_forced_by c next batch a messages Completes =
    record {
      state = with_coord_log next (with_batch next.log batch);
      answer = a;
      sent = messages;
      marks = marks_of (node.Coord c) (batch ++ next.log.waiting);
    }
coord_forced_by c next batch a messages (StopsAt call leaves) = stopped_coord c next call (batch_is_stable call leaves) batch

abbrev pub force_coord : CoordNumber → CoordState → List Record → Answer → List Message → CoordStep
force_coord c next batch a messages = coord_forced_by c next batch a messages (outcome_of next.log.armed 4)
