use Rattle.std.proofs.Common.{List, length, refl, sym, ap, subst, ◌∙◌}
use Rattle.std.specs.List.{AllByRecursion}
use Rattle.std.specs.Prelude.{Ok, reverse}
use Rattle.co_base.specs.declared.mark.Mark.{Mark}
use Rattle.co_base.specs.declared.node.Node.TheVariants as node
use Rattle.co_log.specs.LogView.{LogView}
use Rattle.co_log.specs.Spare.{IsFillable, IsOverfull}
use Rattle.co_message.specs.declared.answer.Answer.TheVariants as answer
use Rattle.co_message.specs.declared.message.Message.{Message}
use Rattle.co_node.specs.Answers.{IsServed}
use Rattle.co_node.specs.Writes.{filled_with, filling, HasWritten}
use Rattle.co_node.specs.declared.written.Written.{Written}
use Rattle.co_node.specs.declared.written.Written.TheVariants.{Done, Stopped}
use Rattle.co_plain.specs.CoordLog.{coord_fill_by}
use Rattle.co_plain.specs.LogWrite.{generation_of, outcome_of}
use Rattle.co_plain.specs.Numbers.{next_generation}
use Rattle.co_record.specs.declared.record.Record.{Record}
use Rattle.co_coord.specs.Restating.{restated}
use Rattle.co_coord.specs.Standing.{HasDone, marks_in}
use Rattle.co_coord.specs.declared.coord.Coord.{Coord}
use Rattle.co_coord.specs.declared.step.CoordStep.{CoordStep}
use Rattle.co_coord.proofs.Checkpoints.{fill_done, fill_stopped}
use Rattle.co_node.proofs.Directories.{wanting}
use Rattle.co_coord.proofs.Restating.{may_fill, oldest_first, same_commits}
use Rattle.co_coord.proofs.coord.Coord.fill.Goals as goal

pub returns-in_err-records-clause-answered : goal.returns-in_err-records-clause-answered
returns-in_err-records-clause-answered g c = λ y r.
    let x = c.args.self.now in
    let n = node.Coord x.number in
    wanting marks_in n x.log.spare.spot (IsOverfull x.log (reverse (restated y))) (filled_with n y.log (restated y)) y.log x.log (g.H.Home.seen c.args.home.now) c.from_residual.result
    c.from_residual.ensures r.log c.requires.held c.lengths.ensures.within

pub fill-requires-clause-items : goal.fill-requires-clause-items
fill-requires-clause-items g c =
    let y = c.requires.stands.0 in
    let r = c.requires.stands.1 in
    let made = same_commits y c.table.result.now c.in_ok-records.records.items (r.table c.table.result.now c.table.ensures) c.in_ok-records.ensures in
    subst (AllByRecursion IsFillable) (sym c.as_slice.ensures.value) (may_fill c.args.self.now.number y c.in_ok-records.records.items c.requires.stands.3 made)

pub filled_generation-requires : goal.filled_generation-requires
filled_generation-requires g c =
    let n = node.Coord c.args.self.now.number in
    let y = c.requires.stands.0 in
    let written = subst (λ (o : Written). HasWritten (filling n y.log (reverse c.as_slice.result.now)) n y.log c.fill.new.log (Ok o)) c.in-Done.is (c.in_ok-marks.ensures.written n y.log c.requires.stands.1.log) in
    ap (λ (ms : List Mark). length ms) written.1

pub returns-in-Done-clause-did : goal.returns-in-Done-clause-did
returns-in-Done-clause-did g c = λ y r.
    let x = c.args.self.now in
    let n = node.Coord x.number in
    let generation = next_generation (generation_of y.log.stable) in
    let after : Coord = record x { log = c.fill.new.log } in
    let made = ap reverse c.as_slice.ensures.value ∙ same_commits y c.table.result.now c.in_ok-records.records.items (r.table c.table.result.now c.table.ensures) c.in_ok-records.ensures in
    let there = subst (λ (o : Written). HasWritten (filling n y.log (reverse c.as_slice.result.now)) n y.log c.fill.new.log (Ok o)) c.in-Done.is (c.in_ok-marks.ensures.written n y.log r.log) in
    let written = subst (λ (rs : List Record). HasWritten (filling n y.log rs) n y.log c.fill.new.log (Ok (Done c.in-Done.marks))) made there in
    subst (λ (ms : List Message). HasDone (coord_fill_by x.number y generation (outcome_of y.log.armed 4)) (record { answer = answer.Filled c.filled_generation.result; sent = ms; marks = c.in-Done.marks }) after) (sym c.new.ensures)
    (fill_done x after y c.in-Done.marks c.filled_generation.result r c.requires.up refl refl (c.filled_generation.ensures n generation written.1) written)

pub returns-in-Done-clause-answered : goal.returns-in-Done-clause-answered
returns-in-Done-clause-answered g c = λ y r.
    let x = c.args.self.now in
    let n = node.Coord x.number in
    let old = g.H.Home.seen c.args.home.now in
    let new = g.H.Home.seen c.fill.new.home in
    let made = ap reverse c.as_slice.ensures.value ∙ same_commits y c.table.result.now c.in_ok-records.records.items (r.table c.table.result.now c.table.ensures) c.in_ok-records.ensures in
    subst (λ (items : List Record). (IsOverfull x.log items → ⊥) × IsServed n c.fill.new.log old new) (oldest_first y c.as_slice.result.now made) (c.in_ok-marks.ensures.answered n y.log r.log)

pub returns-clause-did : goal.returns-clause-did
returns-clause-did g c = λ y r.
    let x = c.args.self.now in
    let n = node.Coord x.number in
    let after = c.stopped.new.self in
    let made = ap reverse c.as_slice.ensures.value ∙ same_commits y c.table.result.now c.in_ok-records.records.items (r.table c.table.result.now c.table.ensures) c.in_ok-records.ensures in
    let there = subst (λ (o : Written). HasWritten (filling n y.log (reverse c.as_slice.result.now)) n y.log c.fill.new.log (Ok o)) c.in-Stopped.is (c.in_ok-marks.ensures.written n y.log r.log) in
    let here = subst (λ (v : LogView). HasWritten (filling n y.log (reverse c.as_slice.result.now)) n y.log v (Ok (Stopped c.in-Stopped.call c.in-Stopped.marks))) (sym c.stopped.ensures.log) there in
    let written = subst (λ (rs : List Record). HasWritten (filling n y.log rs) n y.log after.log (Ok (Stopped c.in-Stopped.call c.in-Stopped.marks))) made here in
    subst (λ (d : CoordStep). HasDone (coord_fill_by x.number y (next_generation (generation_of y.log.stable)) (outcome_of y.log.armed 4)) d after) (sym c.stopped.ensures.step)
    (fill_stopped x after y c.in-Stopped.call c.in-Stopped.marks c.stopped.ensures.same.number c.stopped.ensures.down written)

pub returns-clause-answered : goal.returns-clause-answered
returns-clause-answered g c = λ y r.
    let x = c.args.self.now in
    let n = node.Coord x.number in
    let old = g.H.Home.seen c.args.home.now in
    let new = g.H.Home.seen c.fill.new.home in
    let made = ap reverse c.as_slice.ensures.value ∙ same_commits y c.table.result.now c.in_ok-records.records.items (r.table c.table.result.now c.table.ensures) c.in_ok-records.ensures in
    let there = subst (λ (items : List Record). (IsOverfull x.log items → ⊥) × IsServed n c.fill.new.log old new) (oldest_first y c.as_slice.result.now made) (c.in_ok-marks.ensures.answered n y.log r.log) in
    subst (λ (v : LogView). (IsOverfull x.log (reverse (restated y)) → ⊥) × IsServed n v old new) (sym c.stopped.ensures.log) there
