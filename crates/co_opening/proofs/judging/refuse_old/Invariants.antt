use Rattle.std.proofs.Common.{take}
use Rattle.std.specs.List.{AllByRecursion}
use Rattle.co_opening.specs.Versions.{IsLatest}
use Rattle.co_opening.proofs.judging.refuse_old.Given as goal

abbrev pub invariant-loop-log : goal.invariant-loop-log
invariant-loop-log l = AllByRecursion IsLatest (take l.log-index l.logs)
