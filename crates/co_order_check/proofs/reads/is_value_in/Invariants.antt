use Rattle.std.proofs.Common.{◌≡◌, drop}
use Rattle.co_order_check.specs.Reads.{value_in}
use Rattle.co_order_check.proofs.reads.is_value_in.Given as goal

abbrev pub invariant-loop-row : goal.invariant-loop-row
invariant-loop-row l = value_in l.rows l.key ≡ value_in (drop l.row-index l.rows) l.key
