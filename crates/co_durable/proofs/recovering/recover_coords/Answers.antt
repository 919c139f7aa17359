use Rattle.std.proofs.Common.{◌+◌, take, sym, subst}
use Rattle.co_durable.specs.Pairs.{EachPair}
use Rattle.co_durable.specs.Recovering.{coord_refuses, IsSeenIn, IsFirstToFall}
use Rattle.co_durable.proofs.Pairs.{pair_more}
use Rattle.co_durable.proofs.Readings.{handed_on}
use Rattle.co_durable.proofs.Recoveries.{first_to_fall}
use Rattle.co_durable.proofs.recovering.recover_coords.Goals as goal

pub returns-in_err-seen_in-clause-refused : goal.returns-in_err-seen_in-clause-refused
returns-in_err-seen_in-clause-refused c =
    let logs = c.args.logs.now in
    let falls : IsFirstToFall (coord_refuses c.args.members) logs c.in_err-seen_in.field-0.0 =
    first_to_fall (coord_refuses c.args.members) (IsSeenIn c.args.members) (λ log told r items has. (r items has).allowed) logs c.loop-log.seen.items c.loop-log.log-index c.log-item.result c.log-item.result c.in_err-seen_in.field-0.0
    c.loop-log-test.true c.log-item.is c.loop-log.invariant c.in_err-seen_in.ensures.refused in
    handed_on _ (IsFirstToFall (coord_refuses c.args.members) logs) c.from_residual.result (λ e is. subst (IsFirstToFall (coord_refuses c.args.members) logs) (sym is) falls) c.from_residual.ensures.1

pub loop-log-preserved : goal.loop-log-preserved
loop-log-preserved c =
    let logs = c.args.logs.now in
    subst (EachPair (IsSeenIn c.args.members) (take (c.loop-log.log-index + 1) logs)) (sym c.in_ok-push.ensures.items)
    (pair_more (IsSeenIn c.args.members) logs c.loop-log.seen.items c.loop-log.log-index c.log-item.result c.log-item.result c.in_ok-seen_in.field-0 c.loop-log-test.true c.log-item.is c.loop-log.invariant c.in_ok-seen_in.ensures.seen)
