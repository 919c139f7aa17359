use Rattle.std.proofs.Common.{refl, ap}
use Rattle.co_plain.specs.Coordinator.{coord_begin}
use Rattle.co_coord.specs.Plans.{begin_plan}
use Rattle.co_coord.specs.declared.plan.Plan.{Plan}
use Rattle.co_coord.proofs.Carrying.{planned}
use Rattle.co_coord.proofs.Steps.{begin_is}
use Rattle.co_coord.proofs.coord.Coord.begin.Goals as goal

pub settle-requires-clause-quiet : goal.settle-requires-clause-quiet
settle-requires-clause-quiet c = ap (λ (p : Plan). p.writes) c.begin_plan-plan.ensures

pub returns-clause-did : goal.returns-clause-did
returns-clause-did c = λ y r.
    let n = c.args.self.now.number in
    planned (coord_begin y c.args.t) n c.args.t y (λ e. begin_plan) y.table c.begin_plan-plan.result c.settle.result c.settle.new.self (begin_is n c.args.t y) refl c.begin_plan-plan.ensures (c.settle.ensures.did y r)
