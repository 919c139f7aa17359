use Rattle.std.proofs.Common.{◌≡◌, ap, ◌∙◌, subst, IfOk}
use Rattle.co_serial.specs.Records.{Records}
use Rattle.co_state.specs.Effects.{records_from}
use Rattle.co_state.proofs.Rows.{records_from-rows}
use Rattle.co_state.proofs.records.copy_records.Goals as goal

pub returns : goal.returns
returns c =
    subst (λ (m : Records). IfOk c.records_from.result (λ copy. copy ≡ m))
    (ap records_from (c.into_vec.ensures.value ∙ c.in_ok-rows.ensures) ∙ records_from-rows c.args.records.now) c.records_from.ensures
