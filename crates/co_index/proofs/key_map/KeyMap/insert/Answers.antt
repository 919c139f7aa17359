use Rattle.std.proofs.Common.{ap, ◌∙◌}
use Rattle.std.specs.FinMap.{insert, slice_cmp-IsAntisymmetric, nat_cmp-IsAntisymmetric}
use Rattle.std.proofs.lemmas.Cmp.{nat_list_cmp_total}
use Rattle.co_serial.proofs.MapViews.{view-insert}
use Rattle.co_index.proofs.key_map.KeyMap.insert.Goals as goal

pub returns : goal.returns
returns g c = view-insert nat_list_cmp_total (slice_cmp-IsAntisymmetric nat_cmp-IsAntisymmetric) _ _ c.args.key c.args.entry c.in_ok-insert.ensures.updates.0
    ∙ ap (λ m. insert m c.args.key c.args.entry) c.self.view_is
