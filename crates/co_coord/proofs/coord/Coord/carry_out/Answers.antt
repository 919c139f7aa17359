use Rattle.std.proofs.Common.{refl, sym, subst, ◌∙◌}
use Rattle.std.specs.Prelude.{Ok, Err}
use Rattle.co_base.specs.declared.node.Node.TheVariants as node
use Rattle.co_log.specs.LogView.{LogView, IsHeld}
use Rattle.co_log.specs.declared.fault.NodeFault.TheVariants.{Memory}
use Rattle.co_node.specs.NodeLog.{RepresentsLog}
use Rattle.co_node.specs.declared.written.Written.{Written}
use Rattle.co_coord.specs.Plans.{carried_out}
use Rattle.co_coord.specs.Standing.{HasDone, marks_in, written_by}
use Rattle.co_node.specs.Writing.{HasWrittenFor, IsAnsweredFor}
use Rattle.co_coord.specs.declared.coord.Coord.{Coord}
use Rattle.co_coord.specs.declared.step.CoordStep.{CoordStep}
use Rattle.co_coord.proofs.Carrying.{done_step, stopped_step, table_of, made}
use Rattle.co_node.proofs.Directories.{passed_on, wants_memory}
use Rattle.co_coord.proofs.coord.Coord.carry_out.Goals as goal

pub returns-then-is_err-clause-answered : goal.returns-then-is_err-clause-answered
returns-then-is_err-clause-answered g c = λ y r.
    let x = c.args.self.now in
    let home = g.H.Home.seen c.args.home.now in
    subst (λ (v : LogView). IsAnsweredFor c.args.plan.writes (node.Coord x.number) y.log x.log v home home (written_by (Err Memory))) (sym c.change.ensures.log)
    (wants_memory marks_in (node.Coord x.number) c.args.plan.writes y.log x.log home (Err Memory) (refl, refl) r.log c.requires.held c.requires.short)

pub write-requires-clause-held : goal.write-requires-clause-held
write-requires-clause-held g c = subst (λ (v : LogView). IsHeld (g.H.Home.seen c.args.home.now) v) (sym c.change.ensures.log) c.requires.held

pub write-requires-clause-stands : goal.write-requires-clause-stands
write-requires-clause-stands g c =
    let n = node.Coord c.args.self.now.number in
    let l = c.requires.stands.0.log in
    (n, l, subst (λ (v : LogView). RepresentsLog n v l) (sym c.change.ensures.log) c.requires.stands.1.log)

pub returns-in_err-marks-clause-answered : goal.returns-in_err-marks-clause-answered
returns-in_err-marks-clause-answered g c = λ y r.
    let n = node.Coord c.args.self.now.number in
    let w = c.args.plan.writes in
    let old = g.H.Home.seen c.args.home.now in
    let new = g.H.Home.seen c.write.new.home in
    let here = subst (λ (v : LogView). RepresentsLog n v y.log) (sym c.change.ensures.log) r.log in
    let left = subst (λ (v : LogView). IsAnsweredFor w n y.log v c.write.new.log old new (Err c.in_err-marks.field-0.0)) c.change.ensures.log (c.in_err-marks.ensures.answered n y.log here) in
    passed_on marks_in n w y.log c.args.self.now.log c.write.new.log old new c.in_err-marks.field-0.0 c.from_residual.result c.from_residual.ensures left

pub returns-in-Done-clause-did : goal.returns-in-Done-clause-did
returns-in-Done-clause-did g c = λ y r.
    let x = c.args.self.now in
    let n = node.Coord x.number in
    let plan = c.args.plan in
    let t = table_of x.table c.requires.up in
    let after : Coord = record c.change.new.self { log = c.write.new.log } in
    let here = subst (λ (v : LogView). RepresentsLog n v y.log) (sym c.change.ensures.log) r.log in
    let written = subst (λ (o : Written). HasWrittenFor plan.writes n y.log c.write.new.log (Ok o)) c.in-Done.is (c.in_ok-marks.ensures.written n y.log here) in
    done_step x after y t.0 c.args.txn plan.writes plan.change plan.answer plan.sent c.in-Done.marks r t.1 c.change.ensures.same.number (made _ c.change.result (sym c.is_err.ensures.value ∙ c.if-is_err.false) (c.change.ensures.table t.0 t.1)) written

pub returns-in-Done-clause-answered : goal.returns-in-Done-clause-answered
returns-in-Done-clause-answered g c = λ y r.
    let n = node.Coord c.args.self.now.number in
    let old = g.H.Home.seen c.args.home.now in
    let new = g.H.Home.seen c.write.new.home in
    let here = subst (λ (v : LogView). RepresentsLog n v y.log) (sym c.change.ensures.log) r.log in
    subst (λ (v : LogView). IsAnsweredFor c.args.plan.writes n y.log v c.write.new.log old new (Ok c.in_ok-marks.field-0)) c.change.ensures.log (c.in_ok-marks.ensures.answered n y.log here)

pub returns-in-Stopped-clause-did : goal.returns-in-Stopped-clause-did
returns-in-Stopped-clause-did g c = λ y r.
    let x = c.args.self.now in
    let n = node.Coord x.number in
    let plan = c.args.plan in
    let after = c.stopped.new.self in
    let here = subst (λ (v : LogView). RepresentsLog n v y.log) (sym c.change.ensures.log) r.log in
    let written = subst (λ (o : Written). HasWrittenFor plan.writes n y.log c.write.new.log (Ok o)) c.in-Stopped.is (c.in_ok-marks.ensures.written n y.log here) in
    subst (λ (d : CoordStep). HasDone (carried_out x.number y c.args.txn plan) d after) (sym c.stopped.ensures.step)
    (stopped_step x after y c.args.txn plan.writes plan.change plan.answer plan.sent c.in-Stopped.call c.in-Stopped.marks c.write.new.log (c.stopped.ensures.same.number ∙ c.change.ensures.same.number) c.stopped.ensures.down c.stopped.ensures.log written)

pub returns-in-Stopped-clause-answered : goal.returns-in-Stopped-clause-answered
returns-in-Stopped-clause-answered g c = λ y r.
    let n = node.Coord c.args.self.now.number in
    let old = g.H.Home.seen c.args.home.now in
    let new = g.H.Home.seen c.write.new.home in
    let here = subst (λ (v : LogView). RepresentsLog n v y.log) (sym c.change.ensures.log) r.log in
    let served = subst (λ (v : LogView). IsAnsweredFor c.args.plan.writes n y.log v c.write.new.log old new (Ok c.in_ok-marks.field-0)) c.change.ensures.log (c.in_ok-marks.ensures.answered n y.log here) in
    subst (λ (v : LogView). IsAnsweredFor c.args.plan.writes n y.log c.args.self.now.log v old new (Ok c.in_ok-marks.field-0)) (sym c.stopped.ensures.log) served
