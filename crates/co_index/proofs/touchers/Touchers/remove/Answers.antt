use Rattle.std.proofs.Common.{ap, ◌∙◌}
use Rattle.std.specs.FinMap.{remove, nat_cmp-IsAntisymmetric}
use Rattle.std.specs.Cmp.{nat_cmp_total}
use Rattle.co_serial.proofs.MapViews.{view-remove}
use Rattle.co_index.proofs.touchers.Touchers.remove.Goals as goal

pub returns : goal.returns
returns g c = view-remove nat_cmp_total nat_cmp-IsAntisymmetric _ _ c.args.t c.remove.ensures.updates.0
    ∙ ap (λ m. remove m c.args.t) c.self.view_is
