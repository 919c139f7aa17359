use Rattle.std.proofs.Common.{◌≡◌, ◌++◌, map}
use Rattle.co_recover.specs.Recovered.{prepared_of}
use Rattle.co_recover.proofs.member.prepared_in.Given as goal

abbrev pub invariant-loop-t : goal.invariant-loop-t
invariant-loop-t l = l.list ++ map prepared_of l.t-iterator ≡ map prepared_of l.initial.t-iterator
