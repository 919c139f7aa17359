use Rattle.std.proofs.Common.{ℕ, ◌<◌}
use Rattle.co_wait.specs.declared.wait.Wait.{Wait}
use Rattle.co_wait.specs.Searching.{IsAtPlace, IsKnownToEnd, IsBetweenSearches}
use Rattle.co_wait.proofs.untangling.untangle.Given as goal

abbrev pub invariant-loop-wait : goal.invariant-loop-wait
invariant-loop-wait l = record {
  rest : IsBetweenSearches l.waits l.known;
  ended : (i : ℕ) (w : Wait) → i < l.wait-index → IsAtPlace l.waits i w → IsKnownToEnd l.known w.held;
}
