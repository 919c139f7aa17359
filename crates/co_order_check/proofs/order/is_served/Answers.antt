use Rattle.co_serial.specs.Family.{family_of}
use Rattle.co_order_check.proofs.Serving.{served_on}
use Rattle.co_order_check.proofs.order.is_served.Goals as goal

pub loop-operation-preserved : goal.loop-operation-preserved
loop-operation-preserved c =
    served_on (family_of c.args.map.now) (family_of c.loop-operation.map) (family_of c.apply.new.self) c.args.told.now c.loop-operation.operation-index c.operation-item.result c.in_ok-serial.serial
    c.loop-operation.invariant c.loop-operation-test.true c.operation-item.is c.in_ok-serial.ensures.reply c.in_ok-serial.ensures.ok (c.is_same.ensures.same c.if-not-is_same.false)
