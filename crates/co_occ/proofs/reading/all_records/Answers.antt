use Rattle.std.proofs.Common.{◌≡◌, ap, sym, ◌∙◌}
use Rattle.std.specs.FinMap.{empty, entries}
use Rattle.co_occ.proofs.Laying.{laid_over, laid_all}
use Rattle.co_occ.proofs.reading.all_records.Goals as goal

pub returns : goal.returns
returns c =
    let i : c.into_iter-key-iterator.result ≡ entries c.args.installed.now = cc in
    ap (laid_over c.loop-key.records) (sym c.in-None.ensures.steps.0) ∙ c.loop-key.invariant ∙ ap (laid_over empty) i ∙ laid_all c.args.installed.now
