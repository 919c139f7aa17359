use Rattle.std.proofs.Common.{ap, ◌∙◌}
use Rattle.std.specs.FinMap.{insert, nat_cmp-IsAntisymmetric}
use Rattle.std.specs.Cmp.{nat_cmp_total}
use Rattle.co_serial.proofs.MapViews.{view-insert}
use Rattle.co_undecided.proofs.entries.Entries.put.Goals as goal

pub returns : goal.returns
returns c =
    view-insert nat_cmp_total nat_cmp-IsAntisymmetric _ _ c.args.t c.args.entry c.in_ok-insert.ensures.updates.0
    ∙ ap (λ m. insert m c.args.t c.args.entry) c.self.view_is
