use Rattle.std.proofs.Common.{ℕ, sym, ap, subst, ◌∙◌}
use Rattle.std.specs.Prelude.{Ok}
use Rattle.co_plain.specs.Member.{member_ask, coord_of}
use Rattle.co_plain.specs.MemberStep.{standing_of}
use Rattle.co_member.specs.Plans.{ask_plan, carried_out}
use Rattle.co_member.specs.Standing.{HasDone}
use Rattle.co_member.specs.declared.plan.Plan.{Plan}
use Rattle.co_member.specs.declared.step.MemberStep.{MemberStep}
use Rattle.co_member.proofs.Carrying.{planned, told_alone}
use Rattle.co_member.proofs.Quiet.{ask_quiet, ask_stays}
use Rattle.co_member.proofs.Steps.{ask_is}
use Rattle.co_member.proofs.member.Member.ask.Goals as goal

pub told-requires : goal.told-requires
told-requires g c = ap (λ (p : Plan). p.writes) c.ask_plan-plan.ensures ∙ ask_quiet c.args.self.now.number c.args.t c.coord_of.result c.standing.result

pub returns-clause-did : goal.returns-clause-did
returns-clause-did g c = λ x r.
    let m = c.args.self.now in
    let t = c.args.t in
    let plan = c.ask_plan-plan.result in
    let made = c.ask_plan-plan.ensures in
    let here = r.running c.running-running.result.now c.running-running.ensures in
    let at = ap (λ (k : ℕ). ask_plan m.number t k c.standing.result) (c.coord_of.ensures m.kind x here) ∙ ap (ask_plan m.number t (coord_of x t)) (c.standing.ensures m.kind x here) in
    let quiet = ap (λ (p : Plan). p.writes) made ∙ ask_quiet m.number t c.coord_of.result c.standing.result in
    let stays = ap (λ (p : Plan). p.change) made ∙ ask_stays m.number t c.coord_of.result c.standing.result in
    planned g.E.Engine.stands_for (member_ask m.number x t) m.number t x (ask_plan m.number t (coord_of x t) (standing_of x t)) plan (Ok c.told.result) m (ask_is m.number t x) (made ∙ at)
    (subst (λ (d : MemberStep). HasDone g.E.Engine.stands_for (carried_out m.number x t plan) d m) (sym c.told.ensures) (told_alone g.E.Engine.stands_for m x t plan quiet stays r))
