use Rattle.std.proofs.Common.{filter, sym, ap, ◌∙◌}
use Rattle.std.specs.Prelude.{nat_lt}
use Rattle.std.specs.FinMap.{entries, nat_cmp-IsAntisymmetric}
use Rattle.std.specs.Cmp.{nat_cmp_total}
use Rattle.co_serial.proofs.MapViews.{view-entries}
use Rattle.co_stamps.proofs.Ranging.{between_below}
use Rattle.co_stamps.proofs.bearers.Bearers.below.Goals as goal

pub returns : goal.returns
returns c =
    c.range.ensures.between tt
    ∙ between_below c.args.number c.self.inside.map.entries
    ∙ ap (filter (λ e. nat_lt e.0 c.args.number)) (sym (view-entries nat_cmp_total nat_cmp-IsAntisymmetric _ c.range.ensures.ordered) ∙ ap entries c.self.view_is)
