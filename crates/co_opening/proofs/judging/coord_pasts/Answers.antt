use Rattle.std.proofs.Common.{◌+◌, take, sym, subst}
use Rattle.co_durable.specs.Pairs.{EachPair}
use Rattle.co_durable.specs.Recovering.{coord_refuses, IsFirstToFall}
use Rattle.co_opening.specs.Standing.{IsCoordPastOf}
use Rattle.co_durable.proofs.Pairs.{pair_more}
use Rattle.co_durable.proofs.Readings.{handed_on}
use Rattle.co_durable.proofs.Recoveries.{first_to_fall}
use Rattle.co_opening.proofs.judging.coord_pasts.Goals as goal

pub returns-in_err-coord_past-clause-refused : goal.returns-in_err-coord_past-clause-refused
returns-in_err-coord_past-clause-refused c =
    let logs = c.args.logs.now in
    let falls : IsFirstToFall (coord_refuses c.args.members) logs c.in_err-coord_past.field-0.0 =
    first_to_fall (coord_refuses c.args.members) (IsCoordPastOf c.args.members) (λ log told r items has. (r items has).0) logs c.loop-log.pasts.items c.loop-log.log-index c.log-item.result c.log-item.result c.in_err-coord_past.field-0.0
    c.loop-log-test.true c.log-item.is c.loop-log.invariant c.in_err-coord_past.ensures.refused in
    handed_on _ (IsFirstToFall (coord_refuses c.args.members) logs) c.from_residual.result (λ e is. subst (IsFirstToFall (coord_refuses c.args.members) logs) (sym is) falls) c.from_residual.ensures.1

pub loop-log-preserved : goal.loop-log-preserved
loop-log-preserved c =
    let logs = c.args.logs.now in
    subst (EachPair (IsCoordPastOf c.args.members) (take (c.loop-log.log-index + 1) logs)) (sym c.in_ok-push.ensures.items)
    (pair_more (IsCoordPastOf c.args.members) logs c.loop-log.pasts.items c.loop-log.log-index c.log-item.result c.log-item.result c.in_ok-coord_past.field-0 c.loop-log-test.true c.log-item.is c.loop-log.invariant c.in_ok-coord_past.ensures.past)
