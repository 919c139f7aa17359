use Rattle.std.proofs.Common.{◌≡◌, ◌-◌, ◌++◌, map, take, drop}
use Rattle.co_outside.proofs.failing.is_due.Given as goal

-- the numbers before the place are counted, the others are as they were
abbrev pub invariant-loop-n : goal.invariant-loop-n
invariant-loop-n l = l.calls ≡ map (λ n. n - 1) (take l.n-index l.initial.calls) ++ drop l.n-index l.initial.calls
