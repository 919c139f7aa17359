use Rattle.std.proofs.Common.{◌≡◌, sym, subst, None, take}
use Rattle.co_order_check.specs.Reads.{Reflects, left_from}
use Rattle.co_order_check.proofs.Looping.{left_more}
use Rattle.co_order_check.proofs.reads.is_left.Goals as goal

pub loop-operation-preserved : goal.loop-operation-preserved
loop-operation-preserved c =
    let i = c.loop-operation.operation-index in
    subst (λ z. Reflects c.is_left_by-is.result z c.args.content.now)
    (sym (left_more c.args.id.now c.args.told.now i c.operation-item.result c.loop-operation-test.true c.operation-item.is))
    (c.is_left_by-is.ensures (left_from c.args.id.now None (take i c.args.told.now)) c.loop-operation.invariant)
