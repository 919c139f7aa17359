-- So many directories above are synced, and the next one comes next.
use Rattle.std.proofs.Common.{◌≡◌, ◌-◌, length}
use Rattle.std.specs.Path.Iter.{ancestors_next}
use Rattle.co_files.specs.Climb.{next_above, IsAbove}
use Rattle.co_files.proofs.directory.sync_above.Given as goal

abbrev pub invariant-loop-parent : goal.invariant-loop-parent
invariant-loop-parent l = record {
  above : IsAbove l.missing l.dir l.above;
  next : ancestors_next l.parent-iterator ≡ next_above l.dir l.above;
  owed : l.owed ≡ l.missing - length l.above;
}
