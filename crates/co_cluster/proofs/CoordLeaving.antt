-- What the log write of an event leaves of the stable records of its coordinator, where no stop is armed.
use Rattle.std.proofs.Common.{◌≡◌, ℕ, Bool, true, false, List, refl, sym, ap, ◌∙◌}
use Rattle.std.specs.Prelude.{None, reverse, Result, Ok, Err, IfErr}
use Rattle.co_base.specs.declared.node.Node.TheVariants as node
use Rattle.co_base.specs.declared.part.Part.{Part}
use Rattle.co_log.specs.LogView.{LogView}
use Rattle.co_log.specs.Spare.{IsOverfull}
use Rattle.co_log.specs.declared.fault.NodeFault.{NodeFault}
use Rattle.co_message.specs.declared.answer.Answer.{Answer}
use Rattle.co_message.specs.declared.message.Message.{Message}
use Rattle.co_node.specs.Answers.{LeftAs}
use Rattle.co_node.specs.Writes.{filled_with}
use Rattle.co_outside.specs.Home.{HomeView}
use Rattle.co_outside.specs.declared.spot.Spot.{Spot}
use Rattle.co_plain.specs.CoordLog.{coord_checkpoint, coord_checkpoint_by}
use Rattle.co_plain.specs.Coordinator.{coord_commit, coord_deliver}
use Rattle.co_plain.specs.LogWrite.{with_stop}
use Rattle.co_plain.specs.declared.coord_state.CoordState.{CoordState}
use Rattle.co_plain.specs.declared.coord_step.CoordStep.{CoordStep as PlainStep}
use Rattle.co_plain.specs.declared.log_state.LogState.{LogState}
use Rattle.co_record.specs.declared.record.Record.{Record}
use Rattle.co_state.specs.Table.{look}
use Rattle.co_coord.proofs.Restating.{spare_is}
use Rattle.co_coord.proofs.Steps.{commit_is, deliver_is}
use Rattle.co_coord.specs.Plans.{carried, carried_out, commit_plan, deliver_plan, txn_of}
use Rattle.co_coord.specs.Opening.{IsRestarted}
use Rattle.co_coord.specs.Restating.{restated, IsCheckpointed}
use Rattle.co_coord.specs.Standing.{marks_in, written_by}
use Rattle.co_node.specs.Writing.{stable_after}
use Rattle.co_coord.specs.declared.plan.Plan.{Plan}
use Rattle.co_node.specs.declared.writing.Writes.{Writes}
use Rattle.co_node.specs.declared.writing.Writes.TheVariants.{Nothing, Keeps, Forces, ForcesBoth}
use Rattle.co_coord.specs.declared.step.CoordStep.{CoordStep}
use Rattle.co_opening.specs.Rest.{IsSpotOf}
use Rattle.co_cluster.specs.Left.{IsLeftBy, coord_disarmed}
use Rattle.co_cluster.proofs.Leaving.{IsNotFull, step_left, reread_alone}

carried_stable : (w : Writes) (c : ℕ) (y : CoordState) (next : CoordState) (a : Answer) (sent : List Message) → next.log ≡ with_stop y.log None → (carried w c next a sent).state.log.stable ≡ stable_after w y.log
carried_stable Nothing c y next a sent is = ap (λ (k : LogState). k.stable) is
carried_stable (Keeps r) c y next a sent is = ap (λ (k : LogState). k.stable) is
carried_stable (Forces r) c y next a sent is =
    ap (λ (k : LogState). (carried (Forces r) c (record { up = next.up; table = next.table; log = k }) a sent).state.log.stable) is
carried_stable (ForcesBoth first r) c y next a sent is =
    ap (λ (k : LogState). (carried (ForcesBoth first r) c (record { up = next.up; table = next.table; log = k }) a sent).state.log.stable) is

plan_stable : (c t : ℕ) (y : CoordState) (plan : Plan) → stable_after plan.writes y.log ≡ (carried_out c (coord_disarmed y) t plan).state.log.stable
plan_stable c t y plan = sym (carried_stable plan.writes c y _ plan.answer plan.sent refl)

pub commit_stable : (c t : ℕ) (y : CoordState) (parts : List Part) → stable_after (commit_plan c t parts (look y.table t)).writes y.log ≡ (coord_commit c (coord_disarmed y) t parts).state.log.stable
commit_stable c t y parts = plan_stable c t y (commit_plan c t parts (look y.table t)) ∙ sym (ap (λ (d : PlainStep). d.state.log.stable) (commit_is c t (coord_disarmed y) parts))

pub deliver_stable : (c : ℕ) (y : CoordState) (note : Message) → stable_after (deliver_plan c note (look y.table (txn_of note))).writes y.log ≡ (coord_deliver c (coord_disarmed y) note).state.log.stable
deliver_stable c y note =
    plan_stable c (txn_of note) y (deliver_plan c note (look y.table (txn_of note))) ∙ sym (ap (λ (d : PlainStep). d.state.log.stable) (deliver_is c (coord_disarmed y) note))

-- the two steps of a checkpoint
checkpoint_by_left : (c : ℕ) (y : CoordState) (log after : LogView) (old new : HomeView) (out : Result CoordStep NodeFault) (closed : Bool) → IsSpotOf (node.Coord c) log.spare.spot → IsCheckpointed closed (node.Coord c) y log after old new (written_by out) → ((that : List Record) → LeftAs old.file (node.Coord c) y.log.stable that)
    → IfErr out (IsLeftBy new.file (node.Coord c) y.log.stable (coord_checkpoint_by c (coord_disarmed y) closed).state.log.stable)
checkpoint_by_left c y log after old new out false own answered before =
    step_left (node.Coord c) log.spare.spot ⊥ y.log.stable y.log.stable after old new own marks_in out y.log.stable refl answered (before y.log.stable)
checkpoint_by_left c y log after old new out true own answered before =
    let that = filled_with (node.Coord c) y.log (restated y) in
    step_left (node.Coord c) log.spare.spot (IsOverfull log (reverse (restated y))) y.log.stable that after old new own marks_in out (coord_checkpoint_by c (coord_disarmed y) true).state.log.stable (sym (spare_is c y)) answered (before that)

pub checkpoint_left : (c : ℕ) (y : CoordState) (log after : LogView) (old new : HomeView) (out : Result CoordStep NodeFault) → IsSpotOf (node.Coord c) log.spare.spot → IsCheckpointed y.log.spare_closed (node.Coord c) y log after old new (written_by out) → ((that : List Record) → LeftAs old.file (node.Coord c) y.log.stable that)
    → IfErr out (IsLeftBy new.file (node.Coord c) y.log.stable (coord_checkpoint c (coord_disarmed y)).state.log.stable)
checkpoint_left c y log after old new out own answered before = checkpoint_by_left c y log after old new out y.log.spare_closed own answered before

-- a restart writes nothing
pub coord_read : {H : Type 0} (gives : H → Spot → ℕ → List ℕ → Type 0) (seen : H → HomeView) (log : LogView) (old new : H) (up : Bool) (out : Result CoordStep NodeFault) →
    IsRestarted up gives seen log old new out → IfErr out IsNotFull
coord_read gives seen log old new up (Ok d) is = tt
coord_read gives seen log old new true (Err e) is = let h : false ≡ true = is.0 in absurd cc
coord_read gives seen log old new false (Err e) is = reread_alone gives seen log old new e is
