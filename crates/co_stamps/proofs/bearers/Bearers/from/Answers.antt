use Rattle.std.proofs.Common.{filter, sym, ap, ◌∙◌}
use Rattle.std.specs.Prelude.{nat_le}
use Rattle.std.specs.FinMap.{entries, nat_cmp-IsAntisymmetric}
use Rattle.std.specs.Cmp.{nat_cmp_total}
use Rattle.co_serial.proofs.MapViews.{view-entries}
use Rattle.co_stamps.proofs.Ranging.{between_from}
use Rattle.co_stamps.proofs.bearers.Bearers.from.Goals as goal

pub returns : goal.returns
returns c =
    c.range.ensures.between tt
    ∙ between_from c.args.number c.self.inside.map.entries
    ∙ ap (filter (λ e. nat_le c.args.number e.0)) (sym (view-entries nat_cmp_total nat_cmp-IsAntisymmetric _ c.range.ensures.ordered) ∙ ap entries c.self.view_is)
