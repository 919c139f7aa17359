use Rattle.std.proofs.Common.{◌≡◌, take, is_some, None}
use Rattle.co_order_check.specs.Reads.{left_from}
use Rattle.co_order_check.proofs.reads.leaves.Given as goal

abbrev pub invariant-loop-operation : goal.invariant-loop-operation
invariant-loop-operation l = l.leaves ≡ is_some (left_from l.id None (take l.operation-index l.told))
