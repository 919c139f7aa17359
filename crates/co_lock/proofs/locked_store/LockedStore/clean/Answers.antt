use Rattle.std.proofs.Common.{◌≡◌, List, IfOk, ap, subst}
use Rattle.co_base.specs.declared.row.Row.{Row}
use Rattle.co_serial.specs.Records.{all_rows}
use Rattle.co_lock.proofs.Locking.{clean_by}
use Rattle.co_lock.proofs.locked_store.LockedStore.clean.Goals as goal

pub returns : goal.returns
returns c = λ g s.
    subst (λ (rs : List Row). IfOk c.clean.result (λ rows. rows ≡ rs)) (ap all_rows (clean_by s.kept g.installed g.wrote s.images_are s.clean_are)) (c.clean.ensures s.kept s.kept_shown)
