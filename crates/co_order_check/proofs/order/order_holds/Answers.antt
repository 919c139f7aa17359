use Rattle.std.proofs.Common.{◌<◌, ◌∙◌, ap, sym, reverse, length, get_or, arith}
use Rattle.co_check.specs.declared.client.Committed.{Committed}
use Rattle.co_serial.specs.Family.{family_of}
use Rattle.co_order_check.proofs.Serving.{runs_on}
use Rattle.co_order_check.proofs.order.order_holds.Goals as goal

pub loop-place-preserved : goal.loop-place-preserved
loop-place-preserved c =
    let inv = c.loop-place.invariant in
    let served = c.in_ok-is_served.ensures c.if-not-branch-2.false in
    let within : get_or c.args.order.now c.loop-place.place-index 0 < length c.args.history.now = omega arith in
    let r = runs_on c.args.history.now c.args.order.now c.loop-place.place-index c.index-history-place.result c.oldest_first.result.now
    (family_of c.loop-place.map) (family_of c.is_served.new.map) c.loop-place-test.true within c.index-history-place.is (c.oldest_first.ensures ∙ ap {A = Committed} (λ d. reverse d.told) (sym c.index-history-place.is)) inv.serial inv.left served.0 served.1 in
    record { serial = r.0; left = r.1 }
