use Rattle.std.proofs.Common.{List, refl, sym, subst}
use Rattle.std.specs.Prelude.{Ok}
use Rattle.co_base.specs.declared.node.Node.TheVariants as node
use Rattle.co_log.specs.LogView.{LogView}
use Rattle.co_message.specs.declared.answer.Answer.TheVariants as answer
use Rattle.co_message.specs.declared.message.Message.{Message}
use Rattle.co_node.specs.Answers.{IsServed}
use Rattle.co_node.specs.Writes.{closing, HasWritten}
use Rattle.co_node.specs.declared.written.Written.{Written}
use Rattle.co_node.specs.declared.written.Written.TheVariants.{Stopped}
use Rattle.co_plain.specs.CoordLog.{coord_close_by}
use Rattle.co_plain.specs.LogWrite.{outcome_of}
use Rattle.co_coord.specs.Standing.{HasDone}
use Rattle.co_coord.specs.declared.coord.Coord.{Coord}
use Rattle.co_coord.specs.declared.step.CoordStep.{CoordStep}
use Rattle.co_coord.proofs.Checkpoints.{close_done, close_stopped}
use Rattle.co_coord.proofs.coord.Coord.close.Goals as goal

pub returns-in-Done-clause-did : goal.returns-in-Done-clause-did
returns-in-Done-clause-did g c = λ y r.
    let x = c.args.self.now in
    let n = node.Coord x.number in
    let after : Coord = record x { log = c.close.new.log } in
    let written = subst (λ (o : Written). HasWritten (closing y.log) n y.log c.close.new.log (Ok o)) c.in-Done.is (c.in_ok-marks.ensures.written n y.log r.log) in
    subst (λ (ms : List Message). HasDone (coord_close_by y (outcome_of y.log.armed 2)) (record { answer = answer.Closed; sent = ms; marks = c.in-Done.marks }) after) (sym c.new.ensures)
    (close_done x after y c.in-Done.marks r c.requires.up refl refl written)

pub returns-in-Done-clause-answered : goal.returns-in-Done-clause-answered
returns-in-Done-clause-answered g c = λ y r. c.in_ok-marks.ensures.answered (node.Coord c.args.self.now.number) y.log r.log

pub returns-in-Stopped-clause-did : goal.returns-in-Stopped-clause-did
returns-in-Stopped-clause-did g c = λ y r.
    let x = c.args.self.now in
    let n = node.Coord x.number in
    let after = c.stopped.new.self in
    let there = subst (λ (o : Written). HasWritten (closing y.log) n y.log c.close.new.log (Ok o)) c.in-Stopped.is (c.in_ok-marks.ensures.written n y.log r.log) in
    let written = subst (λ (v : LogView). HasWritten (closing y.log) n y.log v (Ok (Stopped c.in-Stopped.call c.in-Stopped.marks))) (sym c.stopped.ensures.log) there in
    subst (λ (d : CoordStep). HasDone (coord_close_by y (outcome_of y.log.armed 2)) d after) (sym c.stopped.ensures.step)
    (close_stopped x after y c.in-Stopped.call c.in-Stopped.marks c.stopped.ensures.same.number c.stopped.ensures.down written)

pub returns-in-Stopped-clause-answered : goal.returns-in-Stopped-clause-answered
returns-in-Stopped-clause-answered g c = λ y r.
    let n = node.Coord c.args.self.now.number in
    let old = g.H.Home.seen c.args.home.now in
    let new = g.H.Home.seen c.close.new.home in
    subst (λ (v : LogView). (⊥ → ⊥) × IsServed n v old new) (sym c.stopped.ensures.log) (c.in_ok-marks.ensures.answered n y.log r.log)
