-- What a checkpoint leaves of the plain coordinator, once its log write ended.
use Rattle.std.proofs.Common.{◌≡◌, ℕ, Bool, true, false, List, [], refl, sym, ap, subst, ◌∙◌}
use Rattle.std.specs.Prelude.{None, if◌then◌else◌, Ok}
use Rattle.co_base.specs.declared.mark.Mark.{Mark}
use Rattle.co_base.specs.declared.node.Node.TheVariants as node
use Rattle.co_message.specs.declared.answer.Answer.TheVariants as answer
use Rattle.co_node.specs.NodeLog.{RepresentsLog}
use Rattle.co_node.specs.Writes.{closing, filled_with, filling, HasWritten}
use Rattle.co_node.specs.declared.written.Written.TheVariants.{Done, Stopped}
use Rattle.co_plain.specs.CoordLog.{coord_close_by, coord_fill_by, coord_spare, coord_stopped_fill}
use Rattle.co_plain.specs.CoordStep.{with_coord_log}
use Rattle.co_plain.specs.LogWrite.{checkpoint_marks, crashed_log, generation_of, outcome_of, with_filled_spare, with_spare}
use Rattle.co_plain.specs.Numbers.{next_generation}
use Rattle.co_plain.specs.declared.coord_state.CoordState.{CoordState}
use Rattle.co_plain.specs.declared.outcome.Outcome.{Outcome}
use Rattle.co_frame.specs.Gate.{batch_is_stable, closes_spare}
use Rattle.co_record.specs.declared.record.Record.{Record}
use Rattle.co_coord.specs.Restating.{restated}
use Rattle.co_coord.specs.Standing.{is_up, RepresentsCoord, HasDone}
use Rattle.co_coord.specs.declared.coord.Coord.{Coord}
use Rattle.co_coord.proofs.Carrying.{stands_down, stands_on, table_of}
use Rattle.co_coord.proofs.Restating.{spare_is}

-- the coordinator goes on over another log
goes_on : (x after : Coord) (y next : CoordState) → RepresentsCoord x y → is_up x ≡ true → after.number ≡ x.number → after.table ≡ x.table → next.up ≡ y.up → next.table ≡ y.table
    → RepresentsLog (node.Coord x.number) after.log next.log → RepresentsCoord after next
goes_on x after y next r up number same stays table log =
    let t = table_of x.table up in
    stands_on x after y next t.0 r up number (same ∙ t.1) stays (table ∙ r.table t.0 t.1) log

pub close_done : (x after : Coord) (y : CoordState) (marks : List Mark) → RepresentsCoord x y → is_up x ≡ true → after.number ≡ x.number → after.table ≡ x.table
    → HasWritten (closing y.log) (node.Coord x.number) y.log after.log (Ok (Done marks))
    → HasDone (coord_close_by y (outcome_of y.log.armed 2)) (record { answer = answer.Closed; sent = []; marks = marks }) after
close_done x after y marks r up number same h =
    subst (λ (o : Outcome). HasDone (coord_close_by y o) (record { answer = answer.Closed; sent = []; marks = marks }) after) (sym h.0)
    (record { answer = refl; sent = refl; marks = h.1; state = goes_on x after y (with_coord_log y (with_spare y.log true)) r up number same refl refl h.2 })

pub close_stopped : (x after : Coord) (y : CoordState) (call : ℕ) (marks : List Mark) → after.number ≡ x.number → after.table ≡ None
    → HasWritten (closing y.log) (node.Coord x.number) y.log after.log (Ok (Stopped call marks))
    → HasDone (coord_close_by y (outcome_of y.log.armed 2)) (record { answer = answer.Stopped call; sent = []; marks = marks }) after
close_stopped x after y call marks number none h =
    subst (λ (o : Outcome). HasDone (coord_close_by y o) (record { answer = answer.Stopped call; sent = []; marks = marks }) after) (sym h.1)
    (record { answer = refl; sent = refl; marks = h.2; state = stands_down x after (with_spare y.log (closes_spare h.0)) number none h.3 })

pub fill_done : (x after : Coord) (y : CoordState) (marks : List Mark) (generation : ℕ) → RepresentsCoord x y → is_up x ≡ true → after.number ≡ x.number → after.table ≡ x.table → generation ≡ next_generation (generation_of y.log.stable)
    → HasWritten (filling (node.Coord x.number) y.log (restated y)) (node.Coord x.number) y.log after.log (Ok (Done marks))
    → HasDone (coord_fill_by x.number y (next_generation (generation_of y.log.stable)) (outcome_of y.log.armed 4)) (record { answer = answer.Filled generation; sent = []; marks = marks }) after
fill_done x after y marks generation r up number same is h =
    let c = x.number in
    let g = next_generation (generation_of y.log.stable) in
    let here = subst (λ (rs : List Record). RepresentsLog (node.Coord c) after.log (with_filled_spare y.log rs)) (sym (spare_is c y)) h.2 in
    subst (λ (o : Outcome). HasDone (coord_fill_by c y g o) (record { answer = answer.Filled generation; sent = []; marks = marks }) after) (sym h.0)
    (record { answer = ap answer.Filled is; sent = refl; marks = h.1; state = goes_on x after y (with_coord_log y (with_filled_spare y.log (coord_spare c y g))) r up number same refl refl here })

stopped_by : (x after : Coord) (y : CoordState) (call : ℕ) (marks : List Mark) (counts : Bool) → after.number ≡ x.number → after.table ≡ None
    → marks ≡ (if counts then checkpoint_marks (node.Coord x.number) (next_generation (generation_of y.log.stable)) else [])
    → RepresentsLog (node.Coord x.number) after.log (crashed_log (if counts then with_filled_spare y.log (filled_with (node.Coord x.number) y.log (restated y)) else y.log))
    → HasDone (coord_stopped_fill x.number y (next_generation (generation_of y.log.stable)) call counts) (record { answer = answer.Stopped call; sent = []; marks = marks }) after
stopped_by x after y call marks true number none told log =
    let c = x.number in
    let g = next_generation (generation_of y.log.stable) in
    let here = subst (λ (rs : List Record). RepresentsLog (node.Coord c) after.log (crashed_log (with_filled_spare y.log rs))) (sym (spare_is c y)) log in
    record { answer = refl; sent = refl; marks = told; state = stands_down x after (with_filled_spare y.log (coord_spare c y g)) number none here }
stopped_by x after y call marks false number none told log =
    record { answer = refl; sent = refl; marks = told; state = stands_down x after y.log number none log }

pub fill_stopped : (x after : Coord) (y : CoordState) (call : ℕ) (marks : List Mark) → after.number ≡ x.number → after.table ≡ None
    → HasWritten (filling (node.Coord x.number) y.log (restated y)) (node.Coord x.number) y.log after.log (Ok (Stopped call marks))
    → HasDone (coord_fill_by x.number y (next_generation (generation_of y.log.stable)) (outcome_of y.log.armed 4)) (record { answer = answer.Stopped call; sent = []; marks = marks }) after
fill_stopped x after y call marks number none h =
    let g = next_generation (generation_of y.log.stable) in
    subst (λ (o : Outcome). HasDone (coord_fill_by x.number y g o) (record { answer = answer.Stopped call; sent = []; marks = marks }) after) (sym h.1)
    (stopped_by x after y call marks (batch_is_stable call h.0) number none h.2 h.3)
