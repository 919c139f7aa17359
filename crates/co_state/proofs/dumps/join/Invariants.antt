use Rattle.std.proofs.Common.{◌≡◌, ◌≤◌, length, take}
use Rattle.co_state.specs.Effects.{joined}
use Rattle.co_state.proofs.dumps.join.Given as goal

abbrev pub invariant-loop-place : goal.invariant-loop-place
invariant-loop-place l = record {
  within : l.place ≤ length l.others;
  rest : joined (take l.place l.others) l.changes.items ≡ joined l.others l.initial.changes.items;
}

abbrev pub decreases-loop-place : goal.decreases-loop-place
decreases-loop-place l = l.place
