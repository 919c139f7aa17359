use Rattle.std.proofs.Common.{◌≡◌, length}
use Rattle.co_wait.specs.Testing.{all_apart}
use Rattle.co_wait.proofs.holding.are_distinct.Given as goal

abbrev pub invariant-loop-first : goal.invariant-loop-first
invariant-loop-first l = all_apart (λ w. w.held) l.legs ≡ all_apart (λ w. w.held) l.rest

abbrev pub decreases-loop-first : goal.decreases-loop-first
decreases-loop-first l = length l.rest
