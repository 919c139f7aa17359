use Rattle.std.proofs.Common.{◌≡◌, take, reverse}
use Rattle.co_check.proofs.copies.copy_told.Given as goal

abbrev pub invariant-loop-operation : goal.invariant-loop-operation
invariant-loop-operation l = l.copy ≡ reverse (take l.operation-index l.operation-items)
