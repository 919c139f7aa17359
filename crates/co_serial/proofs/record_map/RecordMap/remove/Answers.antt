use Rattle.std.proofs.Common.{ap, ◌∙◌}
use Rattle.std.specs.FinMap.{remove, slice_cmp-IsAntisymmetric, nat_cmp-IsAntisymmetric}
use Rattle.std.proofs.lemmas.Cmp.{nat_list_cmp_total}
use Rattle.co_serial.proofs.MapViews.{view-remove}
use Rattle.co_serial.proofs.record_map.RecordMap.remove.Goals as goal

pub returns : goal.returns
returns c = view-remove nat_list_cmp_total (slice_cmp-IsAntisymmetric nat_cmp-IsAntisymmetric) _ _ c.args.key.now c.remove.ensures.updates.0
    ∙ ap (λ m. remove m c.args.key.now) c.self.view_is
