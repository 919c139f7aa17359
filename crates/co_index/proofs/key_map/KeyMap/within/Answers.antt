use Rattle.std.proofs.Common.{ap, sym, ◌∙◌, filter}
use Rattle.std.specs.FinMap.{entries, slice_cmp-IsAntisymmetric, nat_cmp-IsAntisymmetric}
use Rattle.std.proofs.lemmas.Cmp.{nat_list_cmp_total}
use Rattle.co_base.specs.Span.{span_has}
use Rattle.co_serial.proofs.MapViews.{view-entries}
use Rattle.co_base.proofs.Between.{between_span}
use Rattle.co_index.proofs.key_map.KeyMap.within.Goals as goal

pub returns : goal.returns
returns g c =
    c.range.ensures.between tt
    ∙ between_span _ _ c.self.inside.entries.entries
    ∙ (λ i. filter (λ e. span_has (record { lo = c.bounds.ensures.lo i; hi = c.bounds.ensures.hi i }) e.0) c.self.inside.entries.entries)
    ∙ ap (filter (λ e. span_has c.args.range.now e.0)) (sym (view-entries nat_list_cmp_total (slice_cmp-IsAntisymmetric nat_cmp-IsAntisymmetric) _ c.range.ensures.ordered) ∙ ap entries c.self.view_is)
