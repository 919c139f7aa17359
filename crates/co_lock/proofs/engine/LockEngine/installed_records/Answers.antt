use Rattle.std.proofs.Common.{◌≡◌, IfOk, ap, subst, ◌∙◌}
use Rattle.co_serial.specs.Records.{Records}
use Rattle.co_state.specs.Effects.{records_from}
use Rattle.co_state.proofs.Rows.{records_from-rows}
use Rattle.co_lock.proofs.engine.LockEngine.installed_records.Goals as goal

pub returns : goal.returns
returns c = λ b s.
    subst (λ (m : Records). IfOk c.records_from.result (λ records. records ≡ m))
    (ap records_from (c.into_vec.ensures.value ∙ c.in_ok-clean.ensures s.place s.locked) ∙ records_from-rows s.place.installed ∙ s.fits.installed_are) c.records_from.ensures
