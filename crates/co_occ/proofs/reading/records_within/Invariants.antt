use Rattle.std.proofs.Common.{◌≡◌}
use Rattle.std.specs.FinMap.{empty}
use Rattle.co_occ.proofs.Laying.{laid_over}
use Rattle.co_occ.proofs.reading.records_within.Given as goal

abbrev pub invariant-loop-key : goal.invariant-loop-key
invariant-loop-key l = laid_over l.records l.key-iterator ≡ laid_over empty l.initial.key-iterator
