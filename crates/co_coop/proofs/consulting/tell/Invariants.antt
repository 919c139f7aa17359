use Rattle.std.proofs.Common.{◌≡◌, ◌++◌}
use Rattle.co_coop.proofs.consulting.tell.Given as goal

abbrev pub invariant-loop-item : goal.invariant-loop-item
invariant-loop-item l = l.items ≡ l.initial.items ++ l.yielded
