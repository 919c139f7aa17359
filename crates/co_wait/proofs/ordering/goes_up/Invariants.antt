use Rattle.std.proofs.Common.{◌≡◌, drop}
use Rattle.co_wait.specs.Testing.{goes_up}
use Rattle.co_wait.proofs.ordering.goes_up.Given as goal

abbrev pub invariant-loop-wait : goal.invariant-loop-wait
invariant-loop-wait l = goes_up l.fn.first l.rest ≡ goes_up l.last (drop l.wait-index l.rest)
