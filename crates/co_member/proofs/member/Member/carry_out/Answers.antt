use Rattle.std.proofs.Common.{refl, sym, subst, ◌∙◌}
use Rattle.std.specs.Prelude.{Err}
use Rattle.co_base.specs.declared.node.Node.TheVariants as node
use Rattle.co_log.specs.LogView.{LogView, IsHeld}
use Rattle.co_log.specs.declared.fault.NodeFault.TheVariants.{Memory}
use Rattle.co_node.specs.NodeLog.{RepresentsLog}
use Rattle.co_plain.specs.declared.log_state.LogState.{LogState}
use Rattle.co_member.specs.Plans.{changed}
use Rattle.co_member.specs.Standing.{marks_in}
use Rattle.co_node.specs.Writing.{HasWrittenFor, IsAnsweredFor, IsTooLongFor, stable_after}
use Rattle.co_member.proofs.Carrying.{changed_log, changed_up, ended_answered, ended_by}
use Rattle.co_node.proofs.Directories.{wants_memory}
use Rattle.co_member.proofs.member.Member.carry_out.Goals as goal

pub write-written-requires-clause-held : goal.write-written-requires-clause-held
write-written-requires-clause-held g c = subst (λ (v : LogView). IsHeld (g.H.Home.seen c.args.home.now) v) (sym c.change.ensures.log) c.requires.held

pub write-written-requires-clause-stands : goal.write-written-requires-clause-stands
write-written-requires-clause-stands g c =
    let n = node.Member c.args.self.now.number in
    let l = c.requires.stands.0.log in
    (n, l, subst (λ (v : LogView). RepresentsLog n v l) (sym c.change.ensures.log) c.requires.stands.1.log)

pub returns-in-Err-clause-answered : goal.returns-in-Err-clause-answered
returns-in-Err-clause-answered g c = λ y r.
    let x = c.args.self.now in
    let home = g.H.Home.seen c.args.home.now in
    subst (λ (v : LogView). IsAnsweredFor c.args.plan.writes (node.Member x.number) y.log x.log v home home (Err Memory)) (sym c.change.ensures.log)
    (wants_memory marks_in (node.Member x.number) c.args.plan.writes y.log x.log home (Err Memory) (refl, refl) r.log c.requires.held c.requires.short)

pub returns-in-Ok-clause-did : goal.returns-in-Ok-clause-did
returns-in-Ok-clause-did g c = λ y r suits.
    let x = c.args.self.now in
    let n = node.Member x.number in
    let plan = c.args.plan in
    let next = changed y c.args.t plan.change in
    let here = subst (λ (v : LogView). RepresentsLog n v y.log) (sym c.change.ensures.log) r.log in
    let moved = subst (λ (l : LogState). HasWrittenFor plan.writes n l c.write-written.new.log c.write-written.result) (sym (changed_log y c.args.t plan.change)) (c.write-written.ensures.written n y.log here) in
    let running = c.in-Ok.ensures.running y r suits in
    ended_by g.E.Engine.stands_for x (record c.change.new.self { log = c.write-written.new.log }) c.ended.new.self y next running.0 plan.writes plan.answer plan.sent c.write-written.result c.ended.result r c.requires.up c.change.ensures.same.number c.change.ensures.same.kind
    running.1 (changed_up y c.args.t plan.change) running.2 moved c.ended.ensures.ended c.ended.ensures.log c.ended.ensures.same

pub returns-in-Ok-clause-answered : goal.returns-in-Ok-clause-answered
returns-in-Ok-clause-answered g c = λ y r.
    let x = c.args.self.now in
    let n = node.Member x.number in
    let plan = c.args.plan in
    let old = g.H.Home.seen c.args.home.now in
    let new = g.H.Home.seen c.write-written.new.home in
    let here = subst (λ (v : LogView). RepresentsLog n v y.log) (sym c.change.ensures.log) r.log in
    let served = subst (λ (v : LogView). IsAnsweredFor plan.writes n y.log v c.write-written.new.log old new c.write-written.result) c.change.ensures.log (c.write-written.ensures.answered n y.log here) in
    ended_answered n x.log.current.spot (IsTooLongFor plan.writes x.log) y.log.stable (stable_after plan.writes y.log) c.write-written.new.log old new plan.answer plan.sent c.write-written.result (record c.change.new.self { log = c.write-written.new.log }) c.ended.new.self
    c.ended.result c.ended.ensures.ended c.ended.ensures.log refl served

pub returns-in-Err-clause-pins : goal.returns-in-Err-clause-pins
returns-in-Err-clause-pins g c = λ up. c.change.ensures.pins

pub returns-in-Ok-clause-pins : goal.returns-in-Ok-clause-pins
returns-in-Ok-clause-pins g c = λ up. c.ended.ensures.pins up ∙ c.change.ensures.pins
