use Rattle.std.proofs.Common.{ap, subst, sym, ◌∙◌}
use Rattle.co_plain.specs.LocalCommit.{member_local_abort}
use Rattle.co_plain.specs.MemberStep.{standing_of}
use Rattle.co_member.specs.Plans.{local_abort_plan}
use Rattle.co_member.specs.Standing.{Suits}
use Rattle.co_member.specs.declared.plan.Plan.{Plan}
use Rattle.co_member.proofs.Carrying.{planned}
use Rattle.co_member.proofs.Quiet.{abort_quiet, abort_suits}
use Rattle.co_member.proofs.Steps.{local_abort_is}
use Rattle.co_member.proofs.member.Member.local_abort.Goals as goal

pub settle-requires-clause-quiet : goal.settle-requires-clause-quiet
settle-requires-clause-quiet g c = ap (λ (p : Plan). p.writes) c.local_abort_plan-plan.ensures ∙ abort_quiet c.standing.result

pub returns-clause-did : goal.returns-clause-did
returns-clause-did g c = λ x r.
    let t = c.args.t in
    let n = c.args.self.now.number in
    let made = c.local_abort_plan-plan.ensures in
    let at = ap local_abort_plan (c.standing.ensures c.args.self.now.kind x (r.running c.running.result.now c.running.ensures)) in
    let suits = subst (λ (p : Plan). Suits x t p.change) (sym made) (abort_suits x t c.standing.result) in
    planned g.E.Engine.stands_for (member_local_abort x t) n t x (local_abort_plan (standing_of x t)) c.local_abort_plan-plan.result c.settle.result c.settle.new.self (local_abort_is n t x) (made ∙ at) (c.settle.ensures.did x r suits)
