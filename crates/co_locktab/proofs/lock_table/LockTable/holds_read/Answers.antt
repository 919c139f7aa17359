use Rattle.std.proofs.Common.{ap, sym, ◌∙◌}
use Rattle.std.specs.List.{list_any}
use Rattle.co_locktab.specs.Holding.{is_held}
use Rattle.co_locktab.specs.Locks.{same_span, read_by}
use Rattle.co_locktab.proofs.Locking.{narrow}
use Rattle.co_locktab.proofs.lock_table.LockTable.holds_read.Goals as goal

pub returns-else-is_wide : goal.returns-else-is_wide
returns-else-is_wide c = λ locks s.
    c.is_held-else-is_wide.ensures ∙ ap (λ k. is_held c.args.self.now.readers k c.args.t) c.lo.ensures
    ∙ s.readers_are c.args.range.now.lo c.args.t
    ∙ ap (λ r. list_any (same_span r) (read_by locks c.args.t)) (sym (narrow c.args.range.now (sym c.is_wide.ensures ∙ c.if-is_wide.false)))
