use Rattle.std.proofs.Common.{◌∷◌, [], List, refl, sym, subst, arith, ◌∙◌}
use Rattle.std.specs.Prelude.{None, Err}
use Rattle.co_base.specs.declared.node.Node.TheVariants as node
use Rattle.co_log.specs.Batches.{IsBatchOf}
use Rattle.co_log.specs.LogView.{IsForcible, LogView, IsHeld}
use Rattle.co_log.specs.declared.fault.NodeFault.TheVariants.{Memory}
use Rattle.co_message.specs.declared.answer.Answer.TheVariants as answer
use Rattle.co_node.specs.NodeLog.{RepresentsLog}
use Rattle.co_node.proofs.Spelled.{unspelled_answered}
use Rattle.co_record.specs.Spelling.{IsWritable}
use Rattle.co_record.specs.declared.record.Record.{Record}
use Rattle.co_member.specs.Plans.{changed, plan_of}
use Rattle.co_member.specs.Standing.{RepresentsRunning, marks_in}
use Rattle.co_node.specs.Writing.{HasWrittenFor, IsAnsweredFor, IsTooLongFor, MayWrite, stable_after}
use Rattle.co_member.specs.declared.member.Member.{Member}
use Rattle.co_member.specs.declared.plan.Change.{Change}
use Rattle.co_member.specs.declared.plan.Course.TheVariants.{GrantsLocal}
use Rattle.co_node.specs.declared.writing.Writes.{Writes}
use Rattle.co_node.specs.declared.writing.Writes.TheVariants.{ForcesBoth}
use Rattle.co_member.proofs.Carrying.{ended_answered, ended_by, local_change, local_record, local_writes}
use Rattle.co_node.proofs.Directories.{passed_on, wants_memory}
use Rattle.co_member.proofs.Writable.{nobody}
use Rattle.co_member.proofs.member.Member.grant_local.Goals as goal

pub spell_both-requires-clause-prepare : goal.spell_both-requires-clause-prepare
spell_both-requires-clause-prepare g c =
    let m = c.args.self.now in
    let y = c.requires.stands.0 in
    let running = c.requires.stands.1.running c.running.result.now c.running.ensures in
    let is = local_record g.E.Engine.stands_for m.kind c.running.result.now y c.args.t 1 c.args.count c.vote_record-prepare.result running c.requires.stands.2 c.vote_record-prepare.ensures in
    let both = local_writes m.number c.args.t c.args.count y c.vote_record-prepare.result c.commit_record.result c.ranges.count.fits is c.commit_record.ensures in
    (subst MayWrite (sym both) c.requires.stands.3).0.0

pub spell_both-requires-clause-item : goal.spell_both-requires-clause-item
spell_both-requires-clause-item g c = (subst IsWritable (sym c.commit_record.ensures) (nobody c.args.t), subst IsForcible (sym c.commit_record.ensures) tt)

pub returns-in_err-batch-clause-answered : goal.returns-in_err-batch-clause-answered
returns-in_err-batch-clause-answered g c = λ y r active.
    let m = c.args.self.now in
    let n = node.Member m.number in
    let home = g.H.Home.seen c.args.home.now in
    let running = r.running c.running.result.now c.running.ensures in
    let is = local_record g.E.Engine.stands_for m.kind c.running.result.now y c.args.t 1 c.args.count c.vote_record-prepare.result running active c.vote_record-prepare.ensures in
    let both = local_writes m.number c.args.t c.args.count y c.vote_record-prepare.result c.commit_record.result c.ranges.count.fits is c.commit_record.ensures in
    let e = c.in_err-batch.field-0.0 in
    let left = unspelled_answered n m.log y.log (c.vote_record-prepare.result ∷ c.commit_record.result ∷ []) home e r.log c.requires.held c.requires.short (omega arith) c.in_err-batch.ensures in
    let kept = subst (λ (w : Writes). IsAnsweredFor w n y.log m.log m.log home home (Err e)) both left in
    passed_on marks_in n (plan_of (GrantsLocal c.args.count) m.number y c.args.t).writes y.log m.log m.log home home e c.from_residual.result c.from_residual.ensures kept

pub returns-in-Err-clause-answered : goal.returns-in-Err-clause-answered
returns-in-Err-clause-answered g c = λ y r active.
    let x = c.args.self.now in
    let w = (plan_of (GrantsLocal c.args.count) x.number y c.args.t).writes in
    let home = g.H.Home.seen c.args.home.now in
    subst (λ (v : LogView). IsAnsweredFor w (node.Member x.number) y.log x.log v home home (Err Memory)) (sym c.change.ensures.log)
    (wants_memory marks_in (node.Member x.number) w y.log x.log home (Err Memory) (refl, refl) r.log c.requires.held c.requires.short)

pub force_batch-written-requires-clause-held : goal.force_batch-written-requires-clause-held
force_batch-written-requires-clause-held g c = subst (λ (v : LogView). IsHeld (g.H.Home.seen c.args.home.now) v) (sym c.change.ensures.log) c.requires.held

pub force_batch-written-requires-clause-stands : goal.force_batch-written-requires-clause-stands
force_batch-written-requires-clause-stands g c =
    let n = node.Member c.args.self.now.number in
    let l = c.requires.stands.0.log in
    (n, l, subst (λ (v : LogView). RepresentsLog n v l) (sym c.change.ensures.log) c.requires.stands.1.log)

pub force_batch-written-requires-clause-batch : goal.force_batch-written-requires-clause-batch
force_batch-written-requires-clause-batch g c =
    let more : List Record = c.vote_record-prepare.result ∷ c.commit_record.result ∷ [] in
    (more, subst (λ (v : LogView). IsBatchOf v more c.in_ok-batch.batch) (sym c.change.ensures.log) c.in_ok-batch.ensures)

pub returns-in-Ok-clause-did : goal.returns-in-Ok-clause-did
returns-in-Ok-clause-did g c = λ y r active.
    let m = c.args.self.now in
    let n = node.Member m.number in
    let plan = plan_of (GrantsLocal c.args.count) m.number y c.args.t in
    let first = c.vote_record-prepare.result in
    let item = c.commit_record.result in
    let more : List Record = first ∷ item ∷ [] in
    let before' = r.running c.running.result.now c.running.ensures in
    let is = local_record g.E.Engine.stands_for m.kind c.running.result.now y c.args.t 1 c.args.count first before' active c.vote_record-prepare.ensures in
    let both = local_writes m.number c.args.t c.args.count y first item c.ranges.count.fits is c.commit_record.ensures in
    let change = local_change m.number c.args.t c.args.count y c.ranges.count.fits in
    let running = c.in-Ok.ensures.running y r active in
    let now = subst (λ (k : Change). RepresentsRunning g.E.Engine.stands_for m.kind running.0 (changed y c.args.t k)) change running.2 in
    let here = subst (λ (v : LogView). RepresentsLog n v y.log) (sym c.change.ensures.log) r.log in
    let laid = subst (λ (v : LogView). IsBatchOf v more c.in_ok-batch.batch) (sym c.change.ensures.log) c.in_ok-batch.ensures in
    let written = subst (λ (w : Writes). HasWrittenFor w n y.log c.force_batch-written.new.log c.force_batch-written.result) both (c.force_batch-written.ensures.written n y.log more here laid) in
    let before : Member g.row.E.Denot = record c.change.new.self { log = c.force_batch-written.new.log } in
    ended_by g.E.Engine.stands_for m before c.ended.new.self y (changed y c.args.t plan.change) running.0 plan.writes plan.answer plan.sent c.force_batch-written.result c.ended.result r c.requires.up c.change.ensures.same.number c.change.ensures.same.kind
    running.1 refl now written c.ended.ensures.ended c.ended.ensures.log c.ended.ensures.same

pub returns-in-Ok-clause-answered : goal.returns-in-Ok-clause-answered
returns-in-Ok-clause-answered g c = λ y r active.
    let m = c.args.self.now in
    let n = node.Member m.number in
    let old = g.H.Home.seen c.args.home.now in
    let new = g.H.Home.seen c.force_batch-written.new.home in
    let running = r.running c.running.result.now c.running.ensures in
    let first = c.vote_record-prepare.result in
    let item = c.commit_record.result in
    let more : List Record = first ∷ item ∷ [] in
    let is = local_record g.E.Engine.stands_for m.kind c.running.result.now y c.args.t 1 c.args.count first running active c.vote_record-prepare.ensures in
    let both = local_writes m.number c.args.t c.args.count y first item c.ranges.count.fits is c.commit_record.ensures in
    let here = subst (λ (v : LogView). RepresentsLog n v y.log) (sym c.change.ensures.log) r.log in
    let laid = subst (λ (v : LogView). IsBatchOf v more c.in_ok-batch.batch) (sym c.change.ensures.log) c.in_ok-batch.ensures in
    let kept = subst (λ (v : LogView). IsAnsweredFor (ForcesBoth first item) n y.log v c.force_batch-written.new.log old new c.force_batch-written.result) c.change.ensures.log (c.force_batch-written.ensures.answered n y.log more here laid) in
    let served = subst (λ (w : Writes). IsAnsweredFor w n y.log m.log c.force_batch-written.new.log old new c.force_batch-written.result) both kept in
    let w = (plan_of (GrantsLocal c.args.count) m.number y c.args.t).writes in
    ended_answered n m.log.current.spot (IsTooLongFor w m.log) y.log.stable (stable_after w y.log) c.force_batch-written.new.log old new answer.Committed None c.force_batch-written.result (record c.change.new.self { log = c.force_batch-written.new.log }) c.ended.new.self c.ended.result
    c.ended.ensures.ended c.ended.ensures.log refl served

pub returns-in-Err-clause-pins : goal.returns-in-Err-clause-pins
returns-in-Err-clause-pins g c = λ up. c.change.ensures.pins

pub returns-in-Ok-clause-pins : goal.returns-in-Ok-clause-pins
returns-in-Ok-clause-pins g c = λ up. c.ended.ensures.pins up ∙ c.change.ensures.pins
