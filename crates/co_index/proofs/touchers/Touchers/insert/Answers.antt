use Rattle.std.proofs.Common.{ap, ◌∙◌}
use Rattle.std.specs.FinMap.{insert, nat_cmp-IsAntisymmetric}
use Rattle.std.specs.Cmp.{nat_cmp_total}
use Rattle.co_serial.proofs.MapViews.{view-insert}
use Rattle.co_index.proofs.touchers.Touchers.insert.Goals as goal

pub returns : goal.returns
returns g c = view-insert nat_cmp_total nat_cmp-IsAntisymmetric _ _ c.args.t c.args.mark c.in_ok-insert.ensures.updates.0
    ∙ ap (λ m. insert m c.args.t c.args.mark) c.self.view_is
