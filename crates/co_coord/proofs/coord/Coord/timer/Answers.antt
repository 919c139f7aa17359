use Rattle.std.proofs.Common.{ap, ◌∙◌}
use Rattle.co_plain.specs.Coordinator.{coord_timer}
use Rattle.co_state.specs.Table.{look}
use Rattle.co_coord.specs.Plans.{timer_plan}
use Rattle.co_coord.specs.declared.plan.Plan.{Plan}
use Rattle.co_coord.proofs.Carrying.{planned}
use Rattle.co_coord.proofs.Quiet.{timer_quiet}
use Rattle.co_coord.proofs.Steps.{timer_is}
use Rattle.co_coord.proofs.coord.Coord.timer.Goals as goal

pub settle-requires-clause-quiet : goal.settle-requires-clause-quiet
settle-requires-clause-quiet c =
    let n = c.args.self.now.number in
    ap (λ (p : Plan). p.writes) c.in_ok-plan.ensures ∙ timer_quiet n c.args.t (look c.table.result.now c.args.t)

pub returns-clause-did : goal.returns-clause-did
returns-clause-did c = λ y r.
    let n = c.args.self.now.number in
    planned (coord_timer n y c.args.t) n c.args.t y (timer_plan n c.args.t) c.table.result.now c.in_ok-plan.plan c.settle.result c.settle.new.self (timer_is n c.args.t y) (r.table c.table.result.now c.table.ensures) c.in_ok-plan.ensures
    (c.settle.ensures.did y r)
