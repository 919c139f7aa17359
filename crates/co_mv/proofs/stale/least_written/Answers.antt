use Rattle.std.proofs.Common.{◌∷◌, drop, filter, ap, sym, ◌∙◌, option_copied, ◌+◌}
use Rattle.std.proofs.lemmas.List.{at_drop_more}
use Rattle.std.specs.FinMap.{entries}
use Rattle.co_base.specs.Span.{span_has}
use Rattle.co_mv.specs.Overwritten.{written_keys, written_within}
use Rattle.co_state.specs.Search.{least_with}
use Rattle.co_index.proofs.Least.{least_with-append}
use Rattle.co_mv.proofs.stale.least_written.Goals as goal

pub loop-range-preserved : goal.loop-range-preserved
loop-range-preserved c = λ ordered.
    let es = entries c.args.chains.now in
    let rest = drop (c.loop-range.range-index + 1) c.args.ranges.now in
    ap (λ k. least_with k (written_within c.args.installs es rest)) (c.least_within-least.ensures ordered)
    ∙ sym (least_with-append (option_copied c.loop-range.least) (written_keys c.args.installs (filter (λ e. span_has c.range-item.result e.0) es)) (written_within c.args.installs es rest))
    ∙ ap (least_with (option_copied c.loop-range.least))
    (ap (λ r. written_within c.args.installs es (r ∷ rest)) c.range-item.is
    ∙ sym (at_drop_more (written_within c.args.installs es) c.args.ranges.now c.loop-range.range-index c.range-item.result c.loop-range-test.true))
    ∙ c.loop-range.invariant ordered
