use Rattle.std.proofs.Common.{◌≡◌, ◌++◌, map, take, drop}
use Rattle.co_outside.specs.Home.{nearer}
use Rattle.co_outside.proofs.failing.is_call_due.Given as goal

-- the calls before the place are counted, the others are as they were
abbrev pub invariant-loop-at : goal.invariant-loop-at
invariant-loop-at l = l.calls ≡ map (nearer l.spot l.call) (take l.at-index l.initial.calls) ++ drop l.at-index l.initial.calls
