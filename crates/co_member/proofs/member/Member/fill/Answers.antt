use Rattle.std.proofs.Common.{List, length, reverse, refl, sym, ap, subst, ◌∙◌}
use Rattle.std.specs.Prelude.{true, Ok, Err}
use Rattle.std.specs.List.{AllByRecursion}
use Rattle.co_base.specs.declared.mark.Mark.{Mark}
use Rattle.co_base.specs.declared.node.Node.TheVariants as node
use Rattle.co_log.specs.LogView.{LogView}
use Rattle.co_log.specs.Spare.{IsFillable, IsOverfull}
use Rattle.co_node.specs.Writes.{filling, HasWritten}
use Rattle.co_node.specs.declared.written.Written.{Written}
use Rattle.co_node.specs.declared.written.Written.TheVariants.{Stopped}
use Rattle.co_plain.specs.LogWrite.{generation_of}
use Rattle.co_plain.specs.MemberLog.{member_checkpoint, member_spare}
use Rattle.co_plain.specs.Numbers.{next_generation}
use Rattle.co_member.specs.Checkpoint.{spare_items, IsAnsweredIn}
use Rattle.co_member.specs.Standing.{HasDone, marks_in}
use Rattle.co_member.specs.declared.step.MemberStep.{MemberStep}
use Rattle.co_member.proofs.Checkpointing.{filled_answered, filled_done, filled_stopped, spare_alike}
use Rattle.co_member.proofs.Filling.{fillable}
use Rattle.co_node.proofs.Directories.{wanting, passed}
use Rattle.co_member.proofs.member.Member.fill.Goals as goal

pub returns-in_err-items-clause-answered : goal.returns-in_err-items-clause-answered
returns-in_err-items-clause-answered g c = λ y r.
    let x = c.args.self.now in
    wanting marks_in (node.Member x.number) x.log.spare.spot (IsOverfull x.log (spare_items y)) (member_spare x.number y (next_generation (generation_of y.log.stable))) y.log x.log
    (g.H.Home.seen c.args.home.now) c.from_residual.result c.from_residual.ensures r.log c.requires.held c.requires.short

pub fill-requires-clause-items : goal.fill-requires-clause-items
fill-requires-clause-items g c =
    let x = c.args.self.now in
    let y = c.requires.stands.0 in
    let are = c.as_slice.ensures.value ∙ c.in_ok-items.ensures x.kind y (c.requires.stands.1.running c.running.result.now c.running.ensures) in
    subst (AllByRecursion IsFillable) (sym are) (fillable y c.requires.stands.3)

pub returns-in_err-marks-clause-answered : goal.returns-in_err-marks-clause-answered
returns-in_err-marks-clause-answered g c = λ y r.
    let x = c.args.self.now in
    let n = node.Member x.number in
    let old = g.H.Home.seen c.args.home.now in
    let new = g.H.Home.seen c.fill.new.home in
    let are = c.as_slice.ensures.value ∙ c.in_ok-items.ensures x.kind y (r.running c.running.result.now c.running.ensures) in
    let left = filled_answered x.number y x.log c.fill.new.log old new (Err c.in_err-marks.field-0.0) c.as_slice.result.now are (c.in_err-marks.ensures.answered n y.log r.log) in
    passed marks_in n x.log.spare.spot (IsOverfull x.log (spare_items y)) y.log.stable (member_spare x.number y (next_generation (generation_of y.log.stable))) c.fill.new.log old new c.in_err-marks.field-0.0
    c.from_residual-in_err-marks.result c.from_residual-in_err-marks.ensures left

pub filled_generation-requires : goal.filled_generation-requires
filled_generation-requires g c =
    let n = node.Member c.args.self.now.number in
    let y = c.requires.stands.0 in
    let written = subst (λ (o : Written). HasWritten (filling n y.log (reverse c.as_slice.result.now)) n y.log c.fill.new.log (Ok o)) c.in-Done.is (c.in_ok-marks.ensures.written n y.log c.requires.stands.1.log) in
    ap (λ (ms : List Mark). length ms) written.1

pub returns-in-Done-clause-did : goal.returns-in-Done-clause-did
returns-in-Done-clause-did g c = λ y r.
    let x = c.args.self.now in
    let n = node.Member x.number in
    let closed = spare_alike g.E.Engine.stands_for x c.requires.stands.0 y true c.requires.stands.1 r c.requires.stands.2 in
    let are = c.as_slice.ensures.value ∙ c.in_ok-items.ensures x.kind y (r.running c.running.result.now c.running.ensures) in
    let written = subst (λ (o : Written). HasWritten (filling n y.log (reverse c.as_slice.result.now)) n y.log c.fill.new.log (Ok o)) c.in-Done.is (c.in_ok-marks.ensures.written n y.log r.log) in
    let number = c.filled_generation.ensures n (next_generation (generation_of y.log.stable)) written.1 in
    filled_done g.E.Engine.stands_for x (record x { log = c.fill.new.log }) y c.as_slice.result.now c.filled_generation.result c.in-Done.marks r c.requires.up refl refl refl closed are number written

pub returns-in-Done-clause-answered : goal.returns-in-Done-clause-answered
returns-in-Done-clause-answered g c = λ y r.
    let x = c.args.self.now in
    let old = g.H.Home.seen c.args.home.now in
    let new = g.H.Home.seen c.fill.new.home in
    let are = c.as_slice.ensures.value ∙ c.in_ok-items.ensures x.kind y (r.running c.running.result.now c.running.ensures) in
    filled_answered x.number y x.log c.fill.new.log old new (Ok c.in_ok-marks.field-0) c.as_slice.result.now are (c.in_ok-marks.ensures.answered (node.Member x.number) y.log r.log)

pub returns-clause-did : goal.returns-clause-did
returns-clause-did g c = λ y r.
    let x = c.args.self.now in
    let n = node.Member x.number in
    let closed = spare_alike g.E.Engine.stands_for x c.requires.stands.0 y true c.requires.stands.1 r c.requires.stands.2 in
    let are = c.as_slice.ensures.value ∙ c.in_ok-items.ensures x.kind y (r.running c.running.result.now c.running.ensures) in
    let written = subst (λ (o : Written). HasWritten (filling n y.log (reverse c.as_slice.result.now)) n y.log c.fill.new.log (Ok o)) c.in-Stopped.is (c.in_ok-marks.ensures.written n y.log r.log) in
    let moved = subst (λ (v : LogView). HasWritten (filling n y.log (reverse c.as_slice.result.now)) n y.log v (Ok (Stopped c.in-Stopped.call c.in-Stopped.marks))) (sym c.stopped.ensures.log) written in
    subst (λ (d : MemberStep). HasDone g.E.Engine.stands_for (member_checkpoint x.number y) d c.stopped.new.self) (sym c.stopped.ensures.step)
    (filled_stopped g.E.Engine.stands_for x c.stopped.new.self y c.as_slice.result.now c.in-Stopped.call c.in-Stopped.marks r c.stopped.ensures.same.number c.stopped.ensures.same.kind c.stopped.ensures.down closed are moved)

pub returns-clause-answered : goal.returns-clause-answered
returns-clause-answered g c = λ y r.
    let x = c.args.self.now in
    let old = g.H.Home.seen c.args.home.now in
    let new = g.H.Home.seen c.fill.new.home in
    let are = c.as_slice.ensures.value ∙ c.in_ok-items.ensures x.kind y (r.running c.running.result.now c.running.ensures) in
    let served = filled_answered x.number y x.log c.fill.new.log old new (Ok c.in_ok-marks.field-0) c.as_slice.result.now are (c.in_ok-marks.ensures.answered (node.Member x.number) y.log r.log) in
    subst (λ (v : LogView). IsAnsweredIn true x.number y x.log v old new (Ok c.in_ok-marks.field-0)) (sym c.stopped.ensures.log) served
