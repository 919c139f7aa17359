use Rattle.std.proofs.Common.{ℕ, true, refl, sym, subst, ◌∙◌}
use Rattle.std.specs.Prelude.{Some, Err}
use Rattle.co_base.specs.declared.node.Node.TheVariants as node
use Rattle.co_log.specs.LogView.{LogView, IsHeld}
use Rattle.co_log.specs.declared.fault.NodeFault.TheVariants.{Memory}
use Rattle.co_message.specs.declared.answer.Answer.TheVariants as answer
use Rattle.co_message.specs.declared.message.Message.TheVariants as message
use Rattle.co_node.specs.NodeLog.{RepresentsLog}
use Rattle.co_plain.specs.Member.{voted_state}
use Rattle.co_record.specs.Spelling.{IsWritable}
use Rattle.co_record.specs.declared.record.Record.{Record}
use Rattle.co_member.specs.Plans.{plan_of}
use Rattle.co_member.specs.Standing.{HasEndedAs, marks_in}
use Rattle.co_node.specs.Writing.{HasWrittenFor, IsAnsweredFor, IsTooLongFor, stable_after}
use Rattle.co_member.specs.declared.member.Member.{Member}
use Rattle.co_member.specs.declared.plan.Course.TheVariants.{Grants}
use Rattle.co_node.specs.declared.writing.Writes.TheVariants.{Forces}
use Rattle.co_member.proofs.Carrying.{ended_answered, ended_by, lent_record}
use Rattle.co_node.proofs.Directories.{wants_memory}
use Rattle.co_member.proofs.member.Member.grant.Goals as goal

pub returns-in-Err-clause-answered : goal.returns-in-Err-clause-answered
returns-in-Err-clause-answered g c = λ y r active.
    let x = c.args.self.now in
    let w = (plan_of (Grants c.args.coord c.args.count) x.number y c.args.t).writes in
    let home = g.H.Home.seen c.args.home.now in
    subst (λ (v : LogView). IsAnsweredFor w (node.Member x.number) y.log x.log v home home (Err Memory)) (sym c.change.ensures.log)
    (wants_memory marks_in (node.Member x.number) w y.log x.log home (Err Memory) (refl, refl) r.log c.requires.held c.requires.short)

pub force_prepare-written-requires-clause-held : goal.force_prepare-written-requires-clause-held
force_prepare-written-requires-clause-held g c = subst (λ (v : LogView). IsHeld (g.H.Home.seen c.args.home.now) v) (sym c.change.ensures.log) c.requires.held

pub force_prepare-written-requires-clause-stands : goal.force_prepare-written-requires-clause-stands
force_prepare-written-requires-clause-stands g c =
    let n = node.Member c.args.self.now.number in
    let l = c.requires.stands.0.log in
    (n, l, subst (λ (v : LogView). RepresentsLog n v l) (sym c.change.ensures.log) c.requires.stands.1.log)

pub force_prepare-written-requires-clause-item : goal.force_prepare-written-requires-clause-item
force_prepare-written-requires-clause-item g c =
    let m = c.args.self.now in
    let y = c.requires.stands.0 in
    let running = c.in-Ok.ensures.running y c.requires.stands.1 c.requires.stands.2 in
    let is = lent_record g.E.Engine.stands_for m.kind c.change.new.self.running running.0 c.in-Some.running y c.args.t c.args.coord c.args.count c.vote_record.result running.1 c.in-Some.is running.2 c.vote_record.ensures in
    subst IsWritable (sym is) c.requires.stands.3

pub returns-in-Some-clause-did : goal.returns-in-Some-clause-did
returns-in-Some-clause-did g c = λ y r active.
    let m = c.args.self.now in
    let n = node.Member m.number in
    let next = voted_state y c.args.t c.args.coord c.args.count in
    let plan = plan_of (Grants c.args.coord c.args.count) m.number y c.args.t in
    let running = c.in-Ok.ensures.running y r active in
    let is = lent_record g.E.Engine.stands_for m.kind c.change.new.self.running running.0 c.in-Some.running y c.args.t c.args.coord c.args.count c.vote_record.result running.1 c.in-Some.is running.2 c.vote_record.ensures in
    let here = subst (λ (v : LogView). RepresentsLog n v y.log) (sym c.change.ensures.log) r.log in
    let written = subst (λ (i : Record). HasWrittenFor (Forces i) n y.log c.force_prepare-written.new.log c.force_prepare-written.result) is (c.force_prepare-written.ensures.written n y.log here) in
    let before : Member g.row.E.Denot = record c.change.new.self { log = c.force_prepare-written.new.log } in
    let ended = subst (λ (i : ℕ). HasEndedAs answer.Yes (Some (message.Vote c.args.t i c.args.coord true)) c.force_prepare-written.result before c.ended.result c.ended.new.self) c.change.ensures.same.number c.ended.ensures.ended in
    ended_by g.E.Engine.stands_for m before c.ended.new.self y next running.0 plan.writes plan.answer plan.sent c.force_prepare-written.result c.ended.result r c.requires.up c.change.ensures.same.number c.change.ensures.same.kind running.1 refl running.2 written ended c.ended.ensures.log c.ended.ensures.same

pub returns-in-Some-clause-answered : goal.returns-in-Some-clause-answered
returns-in-Some-clause-answered g c = λ y r active.
    let m = c.args.self.now in
    let n = node.Member m.number in
    let w = (plan_of (Grants c.args.coord c.args.count) m.number y c.args.t).writes in
    let old = g.H.Home.seen c.args.home.now in
    let new = g.H.Home.seen c.force_prepare-written.new.home in
    let running = c.in-Ok.ensures.running y r active in
    let is = lent_record g.E.Engine.stands_for m.kind c.change.new.self.running running.0 c.in-Some.running y c.args.t c.args.coord c.args.count c.vote_record.result running.1 c.in-Some.is running.2 c.vote_record.ensures in
    let here = subst (λ (v : LogView). RepresentsLog n v y.log) (sym c.change.ensures.log) r.log in
    let kept = subst (λ (v : LogView). IsAnsweredFor (Forces c.vote_record.result) n y.log v c.force_prepare-written.new.log old new c.force_prepare-written.result) c.change.ensures.log (c.force_prepare-written.ensures.answered n y.log here) in
    let served = subst (λ (i : Record). IsAnsweredFor (Forces i) n y.log m.log c.force_prepare-written.new.log old new c.force_prepare-written.result) is kept in
    ended_answered n m.log.current.spot (IsTooLongFor w m.log) y.log.stable (stable_after w y.log) c.force_prepare-written.new.log old new answer.Yes (Some (message.Vote c.args.t c.change.new.self.number c.args.coord true)) c.force_prepare-written.result
    (record c.change.new.self { log = c.force_prepare-written.new.log }) c.ended.new.self c.ended.result c.ended.ensures.ended c.ended.ensures.log refl served

pub returns-in-Err-clause-pins : goal.returns-in-Err-clause-pins
returns-in-Err-clause-pins g c = λ up. c.change.ensures.pins

pub returns-in-Some-clause-pins : goal.returns-in-Some-clause-pins
returns-in-Some-clause-pins g c = λ up. c.ended.ensures.pins up ∙ c.change.ensures.pins
