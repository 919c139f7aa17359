use Rattle.std.proofs.Common.{◌≡◌, ◌++◌, map}
use Rattle.co_recover.specs.Recovered.{decided_of}
use Rattle.co_recover.proofs.coord.commits_of.Given as goal

abbrev pub invariant-loop-t : goal.invariant-loop-t
invariant-loop-t l = l.commits.items ++ map decided_of l.t-iterator ≡ map decided_of l.initial.t-iterator
