use Rattle.std.proofs.Common.{ap, sym, ◌∙◌}
use Rattle.std.specs.FinMap.{entries, nat_cmp-IsAntisymmetric}
use Rattle.std.specs.Cmp.{nat_cmp_total}
use Rattle.co_serial.proofs.MapViews.{view-entries}
use Rattle.co_index.proofs.touchers.Touchers.iter.Goals as goal

pub returns : goal.returns
returns g c = c.iter.ensures.rest ∙ sym (view-entries nat_cmp_total nat_cmp-IsAntisymmetric _ c.iter.ensures.ordered) ∙ ap entries c.self.view_is
