use Rattle.std.proofs.Common.{◌≡◌, ℕ, sym, ap, subst, ◌∙◌}
use Rattle.std.specs.Prelude.{IfOk}
use Rattle.co_base.specs.declared.node.Node.TheVariants as node
use Rattle.co_log.specs.LogView.{LogView, IsHeld, IsShort}
use Rattle.co_plain.specs.Member.{member_deliver}
use Rattle.co_plain.specs.declared.log_state.LogState.{LogState}
use Rattle.co_plain.specs.declared.member_state.MemberState.{MemberState}
use Rattle.co_member.specs.Plans.{carried_out, deliver_plan, marked, plan_of, txn_of}
use Rattle.co_member.specs.Standing.{HasDone, RepresentsMember, Suits, marks_in, written_by}
use Rattle.co_node.specs.Writing.{MayWrite, IsAnsweredFor}
use Rattle.co_member.specs.declared.plan.Plan.{Plan}
use Rattle.co_member.proofs.Carrying.{planned}
use Rattle.co_node.proofs.Directories.{wants_memory}
use Rattle.co_member.proofs.Steps.{deliver_is}
use Rattle.co_member.proofs.Writable.{castable_for, course_single, deliver_marked, deliver_may, deliver_single, deliver_suits, marked_log}
use Rattle.co_member.proofs.member.Member.deliver.Goals as goal

pub returns-in_err-course-clause-answered : goal.returns-in_err-course-clause-answered
returns-in_err-course-clause-answered g c = λ x r.
    let m = c.args.self.now in
    let w = (deliver_plan m.number x c.args.message.now).writes in
    let home = g.H.Home.seen c.args.home.now in
    subst (λ (v : LogView). IsAnsweredFor w (node.Member m.number) x.log m.log v home home (written_by c.from_residual.result)) (sym c.take_note.ensures.log)
    (wants_memory marks_in (node.Member m.number) w x.log m.log home c.from_residual.result c.from_residual.ensures r.log c.requires.held c.lengths.ensures.within)

pub follow-requires-clause-short : goal.follow-requires-clause-short
follow-requires-clause-short g c = subst (λ (v : LogView). IsShort v.current × IsShort v.spare) (sym c.take_note.ensures.log) c.lengths.ensures.within

pub follow-requires-clause-held : goal.follow-requires-clause-held
follow-requires-clause-held g c = subst (λ (v : LogView). IsHeld (g.H.Home.seen c.args.home.now) v) (sym c.take_note.ensures.log) c.requires.held

pub follow-requires-clause-stands : goal.follow-requires-clause-stands
follow-requires-clause-stands g c =
    let m = c.args.message.now in
    let n = c.args.self.now.number in
    let k = c.take_note.new.self.number in
    let x = c.requires.stands.0 in
    let y = marked x m in
    let course = c.in_ok-course.course in
    let here = c.take_note.ensures.did x c.requires.stands.1 in
    let made = c.in_ok-course.ensures c.take_note.new.self.kind y (here.running c.running.result.now c.running.ensures) in
    let is = made ∙ ap (λ (i : ℕ). deliver_plan i y m) c.take_note.ensures.same.number ∙ deliver_marked n x m in
    let suits = subst (λ (p : Plan). Suits y (txn_of m) p.change) (sym made) (deliver_suits k y m (castable_for y m c.requires.about)) in
    let may = subst (λ (p : Plan). MayWrite p.writes) (sym is) (deliver_may n x m c.requires.stands.2) in
    subst (λ (t : ℕ). (z : MemberState) × RepresentsMember g.E.Engine.stands_for c.take_note.new.self z × Suits z t (plan_of course k z t).change × MayWrite (plan_of course k z t).writes) (sym c.txn_of.ensures) (y, here, suits, may)

pub follow-requires-clause-single : goal.follow-requires-clause-single
follow-requires-clause-single g c =
    let m = c.args.message.now in
    let k = c.take_note.new.self.number in
    let y = marked c.requires.stands.0 m in
    let here = c.take_note.ensures.did c.requires.stands.0 c.requires.stands.1 in
    let made = c.in_ok-course.ensures c.take_note.new.self.kind y (here.running c.running.result.now c.running.ensures) in
    course_single c.in_ok-course.course k (txn_of m) y (deliver_plan k y m) made (deliver_single k y m)

pub returns-clause-did : goal.returns-clause-did
returns-clause-did g c = λ x r.
    let m = c.args.message.now in
    let n = c.args.self.now.number in
    let k = c.take_note.new.self.number in
    let course = c.in_ok-course.course in
    let y = marked x m in
    let here = c.take_note.ensures.did x r in
    let made = c.in_ok-course.ensures c.take_note.new.self.kind y (here.running c.running.result.now c.running.ensures) in
    let plan = plan_of course k y (txn_of m) in
    let is : plan ≡ deliver_plan n x m = made ∙ ap (λ (i : ℕ). deliver_plan i y m) c.take_note.ensures.same.number ∙ deliver_marked n x m in
    let suits = subst (λ (p : Plan). Suits y (txn_of m) p.change) (sym made) (deliver_suits k y m (castable_for y m c.requires.about)) in
    let at = subst (λ (t : ℕ). Suits y t (plan_of course k y t).change → IfOk c.follow.result (λ d. HasDone g.E.Engine.stands_for (carried_out k y t (plan_of course k y t)) d c.follow.new.self)) c.txn_of.ensures (c.follow.ensures.did y here) suits in
    let by = subst (λ (i : ℕ). IfOk c.follow.result (λ d. HasDone g.E.Engine.stands_for (carried_out i y (txn_of m) plan) d c.follow.new.self)) c.take_note.ensures.same.number at in
    planned g.E.Engine.stands_for (member_deliver n x m) n (txn_of m) y (deliver_plan n x m) plan c.follow.result c.follow.new.self (deliver_is n x m) is by

pub returns-clause-answered : goal.returns-clause-answered
returns-clause-answered g c = λ x r.
    let m = c.args.message.now in
    let n = c.args.self.now.number in
    let k = c.take_note.new.self.number in
    let course = c.in_ok-course.course in
    let y = marked x m in
    let here = c.take_note.ensures.did x r in
    let made = c.in_ok-course.ensures c.take_note.new.self.kind y (here.running c.running.result.now c.running.ensures) in
    let plan = plan_of course k y (txn_of m) in
    let is : plan ≡ deliver_plan n x m = made ∙ ap (λ (i : ℕ). deliver_plan i y m) c.take_note.ensures.same.number ∙ deliver_marked n x m in
    let suits = subst (λ (p : Plan). Suits y (txn_of m) p.change) (sym made) (deliver_suits k y m (castable_for y m c.requires.about)) in
    let old = g.H.Home.seen c.args.home.now in
    let new = g.H.Home.seen c.follow.new.home in
    let after = c.follow.new.self.log in
    let result = written_by c.follow.result in
    let first = subst (λ (t : ℕ). Suits y t (plan_of course k y t).change → IsAnsweredFor (plan_of course k y t).writes (node.Member k) y.log c.take_note.new.self.log after old new result) c.txn_of.ensures (c.follow.ensures.answered y here) suits in
    let second = subst (λ (p : Plan). IsAnsweredFor p.writes (node.Member k) y.log c.take_note.new.self.log after old new result) is first in
    let w = (deliver_plan n x m).writes in
    let third = subst (λ (i : ℕ). IsAnsweredFor w (node.Member i) y.log c.take_note.new.self.log after old new result) c.take_note.ensures.same.number second in
    let fourth = subst (λ (l : LogState). IsAnsweredFor w (node.Member n) l c.take_note.new.self.log after old new result) (marked_log x m) third in
    subst (λ (v : LogView). IsAnsweredFor w (node.Member n) x.log v after old new result) c.take_note.ensures.log fourth

pub returns-in_err-course-clause-pins : goal.returns-in_err-course-clause-pins
returns-in_err-course-clause-pins g c = λ up. c.take_note.ensures.pins

pub returns-clause-pins : goal.returns-clause-pins
returns-clause-pins g c = λ up. c.follow.ensures.pins up ∙ c.take_note.ensures.pins
