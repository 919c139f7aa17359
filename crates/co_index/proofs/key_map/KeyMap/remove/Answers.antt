use Rattle.std.proofs.Common.{ap, sym, ◌∙◌}
use Rattle.std.specs.FinMap.{get, remove, slice_cmp-IsAntisymmetric, nat_cmp-IsAntisymmetric}
use Rattle.std.proofs.lemmas.Cmp.{nat_list_cmp_total}
use Rattle.co_serial.proofs.MapViews.{view-get, view-remove}
use Rattle.co_index.proofs.key_map.KeyMap.remove.Goals as goal

pub returns-clause-entry : goal.returns-clause-entry
returns-clause-entry g c = c.remove.ensures.value ∙ sym (view-get nat_list_cmp_total _ _) ∙ ap (λ m. get m c.args.key.now) c.self.view_is

pub returns-clause-rest : goal.returns-clause-rest
returns-clause-rest g c = view-remove nat_list_cmp_total (slice_cmp-IsAntisymmetric nat_cmp-IsAntisymmetric) _ _ c.args.key.now c.remove.ensures.updates.0
    ∙ ap (λ m. remove m c.args.key.now) c.self.view_is
