use Rattle.std.proofs.Common.{take}
use Rattle.co_serial.specs.Family.{family_of}
use Rattle.co_check.specs.Runs.{AreServed}
use Rattle.co_order_check.proofs.order.is_served.Given as goal

abbrev pub invariant-loop-operation : goal.invariant-loop-operation
invariant-loop-operation l = AreServed (family_of l.initial.map) (family_of l.map) (take l.operation-index l.told)
