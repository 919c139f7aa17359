use Rattle.std.proofs.Common.{ap, sym, ◌∙◌, filter}
use Rattle.std.specs.FinMap.{entries}
use Rattle.co_base.specs.Span.{span_has}
use Rattle.co_serial.proofs.MapViews.{view-entries}
use Rattle.co_locktab.proofs.Orders.{keys_total, keys_apart}
use Rattle.co_base.proofs.Between.{between_span}
use Rattle.co_locktab.proofs.key_index.KeyIndex.within.Goals as goal

pub returns : goal.returns
returns c =
    c.range.ensures.between tt
    ∙ between_span _ _ c.self.inside.map.entries
    ∙ (λ i. filter (λ e. span_has (record { lo = c.bounds.ensures.lo i; hi = c.bounds.ensures.hi i }) e.0) c.self.inside.map.entries)
    ∙ ap (filter (λ e. span_has c.args.range.now e.0)) (sym (view-entries keys_total keys_apart _ c.range.ensures.ordered) ∙ ap entries c.self.view_is)
