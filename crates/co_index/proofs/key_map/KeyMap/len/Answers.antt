use Rattle.std.proofs.Common.{length, ap, sym, ◌∙◌}
use Rattle.std.specs.FinMap.{entries, slice_cmp-IsAntisymmetric, nat_cmp-IsAntisymmetric}
use Rattle.std.proofs.lemmas.Cmp.{nat_list_cmp_total}
use Rattle.co_serial.proofs.MapViews.{view-entries}
use Rattle.co_index.proofs.key_map.KeyMap.len.Goals as goal

pub returns : goal.returns
returns g c =
    c.len.ensures.len
    ∙ ap (λ es. length es) (sym (view-entries nat_list_cmp_total (slice_cmp-IsAntisymmetric nat_cmp-IsAntisymmetric) _ c.len.ensures.ordered) ∙ ap entries c.self.view_is)
