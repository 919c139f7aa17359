use Rattle.std.proofs.Common.{ap, ◌∙◌}
use Rattle.std.specs.Prelude.{Ok}
use Rattle.co_plain.specs.Coordinator.{coord_resend}
use Rattle.co_state.specs.Table.{look}
use Rattle.co_coord.specs.Plans.{resend_plan}
use Rattle.co_coord.specs.declared.plan.Plan.{Plan}
use Rattle.co_coord.proofs.Carrying.{planned, told_alone}
use Rattle.co_coord.proofs.Quiet.{resend_quiet, resend_stays}
use Rattle.co_coord.proofs.Steps.{resend_is}
use Rattle.co_coord.proofs.coord.Coord.resend.Goals as goal

pub returns-clause-did : goal.returns-clause-did
returns-clause-did c = λ y r.
    let x = c.args.self.now in
    let t = c.args.t in
    let plan = c.in_ok-plan.plan in
    let e = look c.table.result.now t in
    let quiet = ap (λ (p : Plan). p.writes) c.in_ok-plan.ensures ∙ resend_quiet x.number t e in
    let stays = ap (λ (p : Plan). p.change) c.in_ok-plan.ensures ∙ resend_stays x.number t e in
    planned (coord_resend x.number y t) x.number t y (resend_plan x.number t) c.table.result.now plan (Ok (record { answer = plan.answer; sent = plan.sent; marks = c.new.result })) x (resend_is x.number t y) (r.table c.table.result.now c.table.ensures) c.in_ok-plan.ensures
    (told_alone x y t plan c.new.result quiet stays c.new.ensures r)
