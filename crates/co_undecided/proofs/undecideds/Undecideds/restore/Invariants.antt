use Rattle.std.proofs.Common.{drop, length, ◌≤◌}
use Rattle.co_undecided.specs.Represented.{HaveEntered}
use Rattle.co_undecided.proofs.undecideds.Undecideds.restore.Given as goal

abbrev pub invariant-loop-left : goal.invariant-loop-left
invariant-loop-left g l = record {
  entered : HaveEntered l.index l.entries (drop l.left l.voted);
  within : l.left ≤ length l.voted;
}

abbrev pub decreases-loop-left : goal.decreases-loop-left
decreases-loop-left g l = l.left
