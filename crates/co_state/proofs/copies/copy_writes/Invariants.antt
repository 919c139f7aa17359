use Rattle.std.proofs.Common.{◌≡◌, take}
use Rattle.co_state.proofs.copies.copy_writes.Given as goal

abbrev pub invariant-loop-change : goal.invariant-loop-change
invariant-loop-change l = l.copy.items ≡ take l.change-index l.writes
