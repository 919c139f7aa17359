use Rattle.std.proofs.Common.{length}
use Rattle.co_log.specs.Scanning.{IsReadTo}
use Rattle.co_log.proofs.scanning.read_batch.Given as goal

abbrev pub invariant-loop-rest : goal.invariant-loop-rest
invariant-loop-rest l = IsReadTo l.version l.node l.at l.batch l.initial.found l.rest l.place l.found

abbrev pub decreases-loop-rest : goal.decreases-loop-rest
decreases-loop-rest l = length l.rest
