use Rattle.std.proofs.Common.{◌≡◌, filter, ap, sym, ◌∙◌}
use Rattle.std.specs.FinMap.{empty, entries}
use Rattle.co_base.specs.Span.{span_has}
use Rattle.co_serial.specs.Records.{all_rows}
use Rattle.co_occ.specs.Seen.{laid_within}
use Rattle.co_occ.proofs.Laying.{laid_over, laid-rows_within}
use Rattle.co_occ.proofs.reading.records_within.Goals as goal

pub returns : goal.returns
returns c =
    let i : c.into_iter-key-iterator.result ≡ filter (λ e. span_has c.args.range.now e.0) (entries c.args.installed.now) = cc in
    let laid : c.loop-key.records ≡ laid_over empty (filter (λ e. span_has c.args.range.now e.0) (entries c.args.installed.now)) =
    ap (laid_over c.loop-key.records) (sym c.in-None.ensures.steps.0) ∙ c.loop-key.invariant ∙ ap (laid_over empty) i in
    ap all_rows (c.in_ok-lay_within.ensures ∙ ap (λ records. laid_within records c.args.changes.now c.args.range.now) laid)
    ∙ laid-rows_within c.args.installed.now c.args.changes.now c.args.range.now
