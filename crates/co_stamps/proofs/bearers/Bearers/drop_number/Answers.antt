use Rattle.std.proofs.Common.{ap, ◌∙◌}
use Rattle.std.specs.FinMap.{remove, nat_cmp-IsAntisymmetric}
use Rattle.std.specs.Cmp.{nat_cmp_total}
use Rattle.co_serial.proofs.MapViews.{view-remove}
use Rattle.co_stamps.proofs.bearers.Bearers.drop_number.Goals as goal

pub returns : goal.returns
returns c = view-remove nat_cmp_total nat_cmp-IsAntisymmetric _ _ c.args.number c.remove.ensures.updates.0
    ∙ ap (λ m. remove m c.args.number) c.self.view_is
