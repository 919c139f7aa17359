use Rattle.std.proofs.Common.{◌≡◌, IfOk, ap, ◌∙◌, subst}
use Rattle.co_serial.specs.Records.{Records, rows_within}
use Rattle.co_state.proofs.Rows.{records_from-rows}
use Rattle.co_state.specs.Effects.{records_from, dumped_rows}
use Rattle.co_state.specs.EngineState.{installed_records}
use Rattle.co_state.specs.declared.engine_state.EngineState.{EngineState}
use Rattle.co_top.proofs.reader.rows_asked.Goals as goal

pub returns : goal.returns
returns g c = λ s r is.
    let b : EngineState = (s.member c.args.ask.now.member).engine in
    let rows = c.into_vec.ensures.value ∙ c.in_ok-dump.ensures.rows s r ∙ ap (λ k. dumped_rows k b) is in
    let same : c.in_ok-records_from.field-0 ≡ installed_records b = c.in_ok-records_from.ensures ∙ ap records_from rows ∙ records_from-rows (installed_records b) in
    subst (λ (m : Records). IfOk c.rows_within-2.result (λ found. found ≡ rows_within m c.args.ask.now.range)) same c.rows_within-2.ensures
