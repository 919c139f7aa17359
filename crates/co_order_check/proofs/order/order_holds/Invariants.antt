use Rattle.std.proofs.Common.{◌≡◌, take, reverse}
use Rattle.co_serial.specs.Family.{family_of}
use Rattle.co_check.specs.Serial.{IsSerial, serial_after}
use Rattle.co_order_check.specs.Order.{in_order}
use Rattle.co_order_check.proofs.order.order_holds.Given as goal

abbrev pub invariant-loop-place : goal.invariant-loop-place
invariant-loop-place l = record {
  serial : IsSerial (reverse (in_order l.history (take l.place-index l.order)));
  left : family_of l.map ≡ serial_after (reverse (in_order l.history (take l.place-index l.order)));
}
