use Rattle.std.proofs.Common.{ap, not, ◌&&◌, ◌∙◌}
use Rattle.std.specs.Prelude.{◌==◌}
use Rattle.co_locktab.specs.Locks.{written_by}
use Rattle.co_locktab.proofs.Least.{least_same}
use Rattle.co_lock.proofs.Locking.{within_alike}
use Rattle.co_lock.proofs.locked_store.LockedStore.read_blocker.Goals as goal

pub returns : goal.returns
returns c = λ g writes s same.
    least_same _ _ c.blocker_read.result
    (λ u. ap (λ b. not (u == c.args.t) && b) (within_alike (written_by s.held u) (writes u) c.args.range.now (λ q. s.writes_held u q ∙ same u q)))
    (c.blocker_read.ensures s.held s.held_shown)
