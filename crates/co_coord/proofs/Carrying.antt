-- What carrying a plan out leaves of the plain coordinator, once its change of the table and its log write were done.
use Rattle.std.proofs.Common.{◌≡◌, ℕ, Bool, true, false, List, [], ◌∷◌, ◌++◌, refl, sym, ap, subst, ◌∙◌}
use Rattle.std.specs.Prelude.{Option, None, Some, is_some, if◌then◌else◌, Result, Ok, Err, is_err, IfOk, OnOk, OnErr}
use Rattle.co_base.specs.declared.leaves.Leaves.{Leaves}
use Rattle.co_base.specs.declared.mark.Mark.{Mark}
use Rattle.co_base.specs.declared.node.Node.TheVariants as node
use Rattle.co_log.specs.LogView.{LogView}
use Rattle.co_log.specs.declared.fault.NodeFault.{NodeFault}
use Rattle.co_log.specs.declared.fault.NodeFault.TheVariants.{Memory}
use Rattle.co_message.specs.declared.answer.Answer.{Answer}
use Rattle.co_message.specs.declared.answer.Answer.TheVariants as answer
use Rattle.co_message.specs.declared.message.Message.{Message}
use Rattle.co_node.specs.NodeLog.{RepresentsLog}
use Rattle.co_node.specs.Writes.{forcing, HasWritten}
use Rattle.co_node.specs.declared.written.Written.TheVariants.{Done, Stopped}
use Rattle.co_plain.specs.CoordLog.{coord_arm, coord_crash}
use Rattle.co_plain.specs.CoordStep.{coord_down, coord_forced_by, stopped_coord, with_coord_log, with_table}
use Rattle.co_plain.specs.LogWrite.{crashed_log, marks_of, outcome_of, with_batch, with_stop}
use Rattle.co_plain.specs.declared.coord_state.CoordState.{CoordState}
use Rattle.co_plain.specs.declared.coord_state.Entry.{Entry}
use Rattle.co_plain.specs.declared.coord_step.CoordStep.{CoordStep as PlainStep}
use Rattle.co_plain.specs.declared.log_state.LogState.{LogState}
use Rattle.co_plain.specs.declared.outcome.Outcome.{Outcome}
use Rattle.co_frame.specs.Gate.{batch_is_stable}
use Rattle.co_record.specs.declared.record.Record.{Record}
use Rattle.co_state.specs.Table.{Table, look}
use Rattle.co_coord.specs.Plans.{changed, carried, carried_out}
use Rattle.co_coord.specs.Standing.{is_up, RepresentsCoord, HasDone}
use Rattle.co_node.specs.Writing.{HasWrittenFor}
use Rattle.co_coord.specs.declared.coord.Coord.{Coord}
use Rattle.co_coord.specs.declared.plan.Change.{Change}
use Rattle.co_coord.specs.declared.plan.Change.TheVariants.{Stays}
use Rattle.co_coord.specs.declared.plan.Plan.{Plan}
use Rattle.co_node.specs.declared.writing.Writes.{Writes}
use Rattle.co_node.specs.declared.writing.Writes.TheVariants.{Nothing, Keeps, Forces, ForcesBoth}
use Rattle.co_coord.specs.declared.step.CoordStep.{CoordStep}

-- the table of a coordinator that is up
pub table_of : (o : Option (Table Entry)) → is_some o ≡ true → (t : Table Entry) × (o ≡ Some t)
table_of None is = absurd cc
table_of (Some t) is = (t, refl)

none_here : {t : Table Entry} {o : Option (Table Entry)} → o ≡ Some t → o ≡ None → ⊥
none_here one two = let h : None ≡ Some _ = sym two ∙ one in absurd cc

same_here : {a b : Table Entry} {o : Option (Table Entry)} → o ≡ Some a → o ≡ Some b → a ≡ b
same_here one two = let h : Some _ ≡ Some _ = sym one ∙ two in cc

-- a coordinator with this table and a log that stands for this plain log, of the number of one that stands for y
pub stands_on : (x after : Coord) (y next : CoordState) (t : Table Entry) → RepresentsCoord x y → is_up x ≡ true → after.number ≡ x.number → after.table ≡ Some t → next.up ≡ y.up → next.table ≡ t
    → RepresentsLog (node.Coord x.number) after.log next.log → RepresentsCoord after next
stands_on x after y next t r up number is stays table log =
    record {
      log = subst (λ (c : ℕ). RepresentsLog (node.Coord c) after.log next.log) (sym number) log;
      up = stays ∙ r.up ∙ up ∙ sym (ap is_some is);
      table = λ u other. table ∙ same_here is other;
      down = λ none. absurd (none_here is none);
    }

-- a coordinator that runs with this table over a log
pub up_over : (x : Coord) (t : Table Entry) (l : LogState) → x.table ≡ Some t → RepresentsLog (node.Coord x.number) x.log l → RepresentsCoord x (record { up = true; table = t; log = l })
up_over x t l is log = record { log = log; up = sym (ap is_some is); table = λ u other. same_here is other; down = λ none. absurd (none_here is none) }

-- a coordinator that went down over this plain log
pub stands_down : (x after : Coord) (l : LogState) → after.number ≡ x.number → after.table ≡ None → RepresentsLog (node.Coord x.number) after.log (crashed_log l) → RepresentsCoord after (coord_down l)
stands_down x after l number none log =
    record {
      log = subst (λ (c : ℕ). RepresentsLog (node.Coord c) after.log (crashed_log l)) (sym number) log;
      up = sym (ap is_some none);
      table = λ t is. absurd (none_here is none);
      down = λ is. refl;
    }

-- ---- a write that was done

forced_done : (x after : Coord) (y next : CoordState) (t : Table Entry) (batch : List Record) (a : Answer) (ms : List Message) (marks : List Mark) → RepresentsCoord x y → is_up x ≡ true → after.number ≡ x.number → after.table ≡ Some t → next.up ≡ y.up → next.table ≡ t
    → HasWritten (forcing (node.Coord x.number) next.log batch) (node.Coord x.number) next.log after.log (Ok (Done marks))
    → HasDone (coord_forced_by x.number next batch a ms (outcome_of next.log.armed 4)) (record { answer = a; sent = ms; marks = marks }) after
forced_done x after y next t batch a ms marks r up number is stays table h =
    subst (λ (o : Outcome). HasDone (coord_forced_by x.number next batch a ms o) (record { answer = a; sent = ms; marks = marks }) after) (sym h.0)
    (record { answer = refl; sent = refl; marks = h.1; state = stands_on x after y (with_coord_log next (with_batch next.log batch)) t r up number is stays table h.2 })

pub done_step : (x after : Coord) (y : CoordState) (t : Table Entry) (txn : ℕ) (w : Writes) (change : Change) (a : Answer) (ms : List Message) (marks : List Mark) → RepresentsCoord x y → x.table ≡ Some t → after.number ≡ x.number
    → after.table ≡ Some (changed t txn change) → HasWrittenFor w (node.Coord x.number) y.log after.log (Ok (Done marks))
    → HasDone (carried w x.number (with_table y (changed y.table txn change)) a ms) (record { answer = a; sent = ms; marks = marks }) after
done_step x after y t txn Nothing change a ms marks r is number table h =
    let next = with_table y (changed y.table txn change) in
    record {
      answer = refl;
      sent = refl;
      marks = h.0;
      state = stands_on x after y next (changed t txn change) r (ap is_some is) number table refl (ap (λ (u : Table Entry). changed u txn change) (r.table t is)) h.1;
    }
done_step x after y t txn (Keeps item) change a ms marks r is number table h =
    let next = carried (Keeps item) x.number (with_table y (changed y.table txn change)) a ms in
    record {
      answer = refl;
      sent = refl;
      marks = h.0;
      state = stands_on x after y next.state (changed t txn change) r (ap is_some is) number table refl (ap (λ (u : Table Entry). changed u txn change) (r.table t is)) h.1;
    }
done_step x after y t txn (Forces item) change a ms marks r is number table h =
    forced_done x after y (with_table y (changed y.table txn change)) (changed t txn change) (item ∷ []) a ms marks r (ap is_some is) number table refl (ap (λ (u : Table Entry). changed u txn change) (r.table t is)) h
done_step x after y t txn (ForcesBoth first item) change a ms marks r is number table h =
    forced_done x after y (with_table y (changed y.table txn change)) (changed t txn change) (item ∷ first ∷ []) a ms marks r (ap is_some is) number table refl (ap (λ (u : Table Entry). changed u txn change) (r.table t is)) h

-- ---- a write that was stopped

stopped_by : (x after : Coord) (next : CoordState) (batch : List Record) (call : ℕ) (marks : List Mark) (counts : Bool) → after.number ≡ x.number → after.table ≡ None
    → marks ≡ (if counts then marks_of (node.Coord x.number) (batch ++ next.log.waiting) else [])
    → RepresentsLog (node.Coord x.number) after.log (crashed_log (if counts then with_batch next.log batch else next.log))
    → HasDone (stopped_coord x.number next call counts batch) (record { answer = answer.Stopped call; sent = []; marks = marks }) after
stopped_by x after next batch call marks true number none told log =
    record { answer = refl; sent = refl; marks = told; state = stands_down x after (with_batch next.log batch) number none log }
stopped_by x after next batch call marks false number none told log =
    record { answer = refl; sent = refl; marks = told; state = stands_down x after next.log number none log }

forced_stopped : (x after : Coord) (next : CoordState) (batch : List Record) (a : Answer) (ms : List Message) (call : ℕ) (marks : List Mark) → after.number ≡ x.number → after.table ≡ None
    → HasWritten (forcing (node.Coord x.number) next.log batch) (node.Coord x.number) next.log after.log (Ok (Stopped call marks))
    → HasDone (coord_forced_by x.number next batch a ms (outcome_of next.log.armed 4)) (record { answer = answer.Stopped call; sent = []; marks = marks }) after
forced_stopped x after next batch a ms call marks number none h =
    subst (λ (o : Outcome). HasDone (coord_forced_by x.number next batch a ms o) (record { answer = answer.Stopped call; sent = []; marks = marks }) after) (sym h.1)
    (stopped_by x after next batch call marks (batch_is_stable call h.0) number none h.2 h.3)

pub stopped_step : (x after : Coord) (y : CoordState) (txn : ℕ) (w : Writes) (change : Change) (a : Answer) (ms : List Message) (call : ℕ) (marks : List Mark) (log : LogView) → after.number ≡ x.number → after.table ≡ None → after.log ≡ log
    → HasWrittenFor w (node.Coord x.number) y.log log (Ok (Stopped call marks))
    → HasDone (carried w x.number (with_table y (changed y.table txn change)) a ms) (record { answer = answer.Stopped call; sent = []; marks = marks }) after
stopped_step x after y txn Nothing change a ms call marks log number none is h = absurd h
stopped_step x after y txn (Keeps item) change a ms call marks log number none is h = absurd h
stopped_step x after y txn (Forces item) change a ms call marks log number none is h =
    forced_stopped x after (with_table y (changed y.table txn change)) (item ∷ []) a ms call marks number none
    (subst (λ (v : LogView). HasWrittenFor (Forces item) (node.Coord x.number) y.log v (Ok (Stopped call marks))) (sym is) h)
stopped_step x after y txn (ForcesBoth first item) change a ms call marks log number none is h =
    forced_stopped x after (with_table y (changed y.table txn change)) (item ∷ first ∷ []) a ms call marks number none
    (subst (λ (v : LogView). HasWrittenFor (ForcesBoth first item) (node.Coord x.number) y.log v (Ok (Stopped call marks))) (sym is) h)

-- ---- plans by the entry of their transaction

-- a plan that was made by the entry of the table, and was carried out, is the step of its event
pub planned : (step : PlainStep) (c t : ℕ) (y : CoordState) (by : Option Entry → Plan) (table : Table Entry) (plan : Plan) (result : Result CoordStep NodeFault) (after : Coord) → step ≡ carried_out c y t (by (look y.table t)) → y.table ≡ table
    → plan ≡ by (look table t) → IfOk result (λ d. HasDone (carried_out c y t plan) d after) → IfOk result (λ d. HasDone step d after)
planned step c t y by table plan result after is same made done =
    let e : step ≡ carried_out c y t plan = is ∙ ap (λ (p : Plan). carried_out c y t p) (ap (λ (u : Table Entry). by (look u t)) same ∙ sym made) in
    subst (λ (s : PlainStep). IfOk result (λ d. HasDone s d after)) (sym e) done

-- a plan that writes and changes nothing
pub told_alone : (x : Coord) (y : CoordState) (t : ℕ) (plan : Plan) (marks : List Mark) → plan.writes ≡ Nothing → plan.change ≡ Stays → marks ≡ [] → RepresentsCoord x y
    → HasDone (carried_out x.number y t plan) (record { answer = plan.answer; sent = plan.sent; marks = marks }) x
told_alone x y t plan marks quiet stays none r =
    let d : CoordStep = record { answer = plan.answer; sent = plan.sent; marks = marks } in
    subst (λ (w : Writes). HasDone (carried w x.number (with_table y (changed y.table t plan.change)) plan.answer plan.sent) d x) (sym quiet)
    (subst (λ (ch : Change). HasDone (carried Nothing x.number (with_table y (changed y.table t ch)) plan.answer plan.sent) d x) (sym stays) (record { answer = refl; sent = refl; marks = none; state = r }))

-- a plan that writes nothing
pub settled : (x after : Coord) (y : CoordState) (t : Table Entry) (txn : ℕ) (plan : Plan) → plan.writes ≡ Nothing → RepresentsCoord x y → x.table ≡ Some t → after.number ≡ x.number → after.log ≡ x.log
    → after.table ≡ Some (changed t txn plan.change) → HasDone (carried_out x.number y txn plan) (record { answer = plan.answer; sent = plan.sent; marks = [] }) after
settled x after y t txn plan quiet r is number log table =
    let kept : RepresentsLog (node.Coord x.number) after.log y.log = subst (λ (v : LogView). RepresentsLog (node.Coord x.number) v y.log) (sym log) r.log in
    done_step x after y t txn plan.writes plan.change plan.answer plan.sent [] r is number table
    (subst (λ (w : Writes). HasWrittenFor w (node.Coord x.number) y.log after.log (Ok (Done []))) (sym quiet) (refl, kept))

-- the same where the change of the table may have found no memory
pub settled_by : {A E : Type 0} (x after : Coord) (y : CoordState) (txn : ℕ) (plan : Plan) (made : Result A E) (out : Result CoordStep NodeFault) → plan.writes ≡ Nothing → RepresentsCoord x y → is_up x ≡ true → after.number ≡ x.number
    → after.log ≡ x.log → ((t : Table Entry) → x.table ≡ Some t → OnOk made (after.table ≡ Some (changed t txn plan.change)))
    → OnOk made (out ≡ Ok (record { answer = plan.answer; sent = plan.sent; marks = [] })) → OnErr made (out ≡ Err Memory)
    → IfOk out (λ d. HasDone (carried_out x.number y txn plan) d after)
settled_by x after y txn plan (Ok a) out quiet r up number log table done memory =
    let t = table_of x.table up in
    subst (λ o. IfOk o (λ d. HasDone (carried_out x.number y txn plan) d after)) (sym done) (settled x after y t.0 txn plan quiet r t.1 number log (table t.0 t.1))
settled_by x after y txn plan (Err e) out quiet r up number log table done memory =
    subst (λ o. IfOk o (λ d. HasDone (carried_out x.number y txn plan) d after)) (sym memory) tt

-- what a call leaves where it had memory
pub made : {A E : Type 0} (P : Type 0) (o : Result A E) → is_err o ≡ false → OnOk o P → P
made P (Ok a) is p = p
made P (Err e) is p = absurd (let z : true ≡ false = is in cc)

-- ---- stops and crashes

pub armed_step : (x after : Coord) (y : CoordState) (call : ℕ) (leaves : Leaves) (sent : List Message) (marks : List Mark) → sent ≡ [] → marks ≡ [] → RepresentsCoord x y → is_up x ≡ true → after.number ≡ x.number → after.table ≡ x.table
    → RepresentsLog (node.Coord x.number) after.log (with_stop y.log (Some (record { call = call; leaves = leaves })))
    → HasDone (coord_arm y call leaves) (record { answer = answer.Armed; sent = sent; marks = marks }) after
armed_step x after y call leaves sent marks nobody nothing r up number table log =
    let t = table_of x.table up in
    record { answer = refl; sent = nobody; marks = nothing; state = stands_on x after y _ t.0 r up number (table ∙ t.1) refl (r.table t.0 t.1) log }

pub disarmed_stands : (x after : Coord) (y : CoordState) → RepresentsCoord x y → after.number ≡ x.number → after.table ≡ x.table → RepresentsLog (node.Coord x.number) after.log (with_stop y.log None)
    → RepresentsCoord after (with_coord_log y (with_stop y.log None))
disarmed_stands x after y r number table log =
    record {
      log = subst (λ (c : ℕ). RepresentsLog (node.Coord c) after.log (with_stop y.log None)) (sym number) log;
      up = r.up ∙ ap is_some (sym table);
      table = λ t is. r.table t (sym table ∙ is);
      down = λ none. ap (λ (z : CoordState). with_coord_log z (with_stop z.log None)) (r.down (sym table ∙ none));
    }

pub crashed_step : (x after : Coord) (y : CoordState) (sent : List Message) (marks : List Mark) → sent ≡ [] → marks ≡ [] → after.number ≡ x.number → after.table ≡ None → RepresentsLog (node.Coord x.number) after.log (crashed_log y.log)
    → HasDone (coord_crash y) (record { answer = answer.Crashed; sent = sent; marks = marks }) after
crashed_step x after y sent marks nobody nothing number none log = record { answer = refl; sent = nobody; marks = nothing; state = stands_down x after y.log number none log }
