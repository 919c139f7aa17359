use Rattle.std.proofs.Common.{take, None}
use Rattle.co_order_check.specs.Reads.{left_from, Reflects}
use Rattle.co_order_check.proofs.reads.is_left.Given as goal

abbrev pub invariant-loop-operation : goal.invariant-loop-operation
invariant-loop-operation l = Reflects l.is (left_from l.id None (take l.operation-index l.told)) l.content
