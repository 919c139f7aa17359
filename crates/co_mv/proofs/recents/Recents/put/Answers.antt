use Rattle.std.proofs.Common.{ap, ◌∙◌}
use Rattle.std.specs.FinMap.{insert, nat_cmp-IsAntisymmetric}
use Rattle.std.specs.Cmp.{nat_cmp_total}
use Rattle.co_serial.proofs.MapViews.{view-insert}
use Rattle.co_mv.proofs.recents.Recents.put.Goals as goal

pub returns : goal.returns
returns c =
    view-insert nat_cmp_total nat_cmp-IsAntisymmetric _ _ c.args.install c.args.keys c.in_ok-insert.ensures.updates.0
    ∙ ap (λ m. insert m c.args.install c.args.keys) c.self.view_is
