use Rattle.std.proofs.Common.{not, ◌&&◌, ◌||◌}
use Rattle.std.specs.Prelude.{◌==◌}
use Rattle.co_locktab.proofs.Least.{least_same}
use Rattle.co_lock.proofs.locked_store.LockedStore.write_blocker.Goals as goal

pub returns : goal.returns
returns c = λ g s.
    least_same _ _ c.blocker_write.result (λ u i. not (u == c.args.t) && (s.writes_held u c.args.key.now i || s.reads_held u c.args.key.now i)) (c.blocker_write.ensures s.held s.held_shown)
