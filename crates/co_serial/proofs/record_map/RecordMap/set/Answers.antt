use Rattle.std.proofs.Common.{ap, ◌∙◌}
use Rattle.std.specs.FinMap.{insert, slice_cmp-IsAntisymmetric, nat_cmp-IsAntisymmetric}
use Rattle.std.proofs.lemmas.Cmp.{nat_list_cmp_total}
use Rattle.co_serial.proofs.MapViews.{view-insert}
use Rattle.co_serial.proofs.record_map.RecordMap.set.Goals as goal

pub returns-clause-ok : goal.returns-clause-ok
returns-clause-ok c = view-insert nat_list_cmp_total (slice_cmp-IsAntisymmetric nat_cmp-IsAntisymmetric) _ _ c.args.key c.args.value c.in_ok-insert.ensures.updates.0
    ∙ ap (λ m. insert m c.args.key c.args.value) c.self.view_is
