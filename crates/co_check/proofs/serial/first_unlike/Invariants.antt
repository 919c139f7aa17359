use Rattle.co_serial.specs.Family.{family_of}
use Rattle.co_check.proofs.Running.{IsSoFar}
use Rattle.co_check.proofs.serial.first_unlike.Given as goal

abbrev pub invariant-loop-operation : goal.invariant-loop-operation
invariant-loop-operation l = IsSoFar (family_of l.initial.map) (family_of l.map) l.fn.told.items l.yielded l.operation-iterator.rest.items
