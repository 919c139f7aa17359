use Rattle.co_mv.specs.Kept.{needed, IsPruned, AreLeft, WereAllKept}
use Rattle.co_mv.specs.Versions.{stays}
use Rattle.std.proofs.Common.{◌≤◌, ◌-◌}
use Rattle.co_mv.proofs.pruning.prune_window.Given as goal

abbrev pub invariant-loop-install : goal.invariant-loop-install
invariant-loop-install l = record {
  within : l.from ≤ l.install;
  were : WereAllKept l.snapshots l.number l.initial.chains → WereAllKept l.snapshots l.number l.chains;
  pruned : WereAllKept l.snapshots l.number l.initial.chains → IsPruned (stays l.number (needed l.snapshots)) l.recents l.from l.install l.initial.chains l.chains;
  others : WereAllKept l.snapshots l.number l.initial.chains → AreLeft l.recents l.from l.to l.initial.chains l.chains;
}

abbrev pub decreases-loop-install : goal.decreases-loop-install
decreases-loop-install l = l.to - l.install
