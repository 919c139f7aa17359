use Rattle.std.proofs.Common.{ap, subst, sym, ◌∙◌}
use Rattle.co_plain.specs.Member.{member_timer}
use Rattle.co_plain.specs.MemberStep.{standing_of}
use Rattle.co_member.specs.Plans.{timer_plan}
use Rattle.co_member.specs.Standing.{Suits}
use Rattle.co_member.specs.declared.plan.Plan.{Plan}
use Rattle.co_member.proofs.Carrying.{planned}
use Rattle.co_member.proofs.Quiet.{timer_quiet, timer_suits}
use Rattle.co_member.proofs.Steps.{timer_is}
use Rattle.co_member.proofs.member.Member.timer.Goals as goal

pub settle-requires-clause-quiet : goal.settle-requires-clause-quiet
settle-requires-clause-quiet g c = ap (λ (p : Plan). p.writes) c.timer_plan-plan.ensures ∙ timer_quiet c.standing.result

pub returns-clause-did : goal.returns-clause-did
returns-clause-did g c = λ x r.
    let t = c.args.t in
    let n = c.args.self.now.number in
    let made = c.timer_plan-plan.ensures in
    let at = ap timer_plan (c.standing.ensures c.args.self.now.kind x (r.running c.running.result.now c.running.ensures)) in
    let suits = subst (λ (p : Plan). Suits x t p.change) (sym made) (timer_suits x t c.standing.result) in
    planned g.E.Engine.stands_for (member_timer x t) n t x (timer_plan (standing_of x t)) c.timer_plan-plan.result c.settle.result c.settle.new.self (timer_is n t x) (made ∙ at) (c.settle.ensures.did x r suits)
