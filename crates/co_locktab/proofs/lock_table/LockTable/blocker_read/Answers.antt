use Rattle.std.proofs.Common.{None, true, false, not, ◌&&◌, filter, ap, sym, subst}
use Rattle.std.specs.Prelude.{◌==◌}
use Rattle.std.specs.FinMap.{entries}
use Rattle.co_base.specs.Span.{span_has}
use Rattle.co_locktab.specs.Holding.{least_along}
use Rattle.co_locktab.specs.Locks.{IsLeast, blocks_read, written_by}
use Rattle.co_locktab.proofs.Orders.{keys_total, keys_apart}
use Rattle.co_locktab.proofs.Holding.{held_there}
use Rattle.co_locktab.proofs.Least.{least_along_all, least_same, least_nobody}
use Rattle.co_locktab.proofs.lock_table.LockTable.blocker_read.Goals as goal

pub returns : goal.returns
returns c = λ locks s.
    let range = c.args.range.now in
    let t = c.args.t in
    let es = filter (λ e. span_has range e.0) (entries c.args.self.now.writers) in
    subst (IsLeast (blocks_read locks t range)) (sym c.least_within.ensures)
    (least_same _ (blocks_read locks t range) (least_along t None es)
    (λ u. ap (λ b. not (u == t) && b) (held_there keys_total keys_apart c.args.self.now.writers (span_has range) (λ k. true) u (written_by locks u) (λ k. s.writers_are k u)))
    (least_along_all t es (λ u. false) None least_nobody))
