use Rattle.std.proofs.Common.{◌≡◌, length}
use Rattle.co_wait.specs.Testing.{all_apart}
use Rattle.co_wait.proofs.holding.stand_once.Given as goal

abbrev pub invariant-loop-first : goal.invariant-loop-first
invariant-loop-first l = all_apart (λ r. r.txn) l.ranks ≡ all_apart (λ r. r.txn) l.rest

abbrev pub decreases-loop-first : goal.decreases-loop-first
decreases-loop-first l = length l.rest
