use Rattle.std.proofs.Common.{◌≢◌, ◌<◌, ℕ, Some}
use Rattle.co_order_check.specs.Order.{operations}
use Rattle.co_order_check.specs.Reads.{left}
use Rattle.co_order_check.proofs.reading.is_left_by_no_other.Given as goal

abbrev pub invariant-loop-place : goal.invariant-loop-place
invariant-loop-place l = (u : ℕ) → u < l.place → u ≢ l.reading.reader → Some u ≢ l.reading.source → left l.reading.record (operations l.history u) ≢ Some l.reading.value
