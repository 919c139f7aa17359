use Rattle.std.proofs.Common.{length, ap, sym, ◌∙◌}
use Rattle.std.specs.Prelude.{◌==◌}
use Rattle.std.specs.FinMap.{entries, nat_cmp-IsAntisymmetric}
use Rattle.std.specs.Cmp.{nat_cmp_total}
use Rattle.co_serial.proofs.MapViews.{view-entries}
use Rattle.co_index.proofs.touchers.Touchers.is_empty.Goals as goal

pub returns : goal.returns
returns g c = ap (λ n. n == 0) (c.len.ensures.len ∙ ap length (sym (view-entries nat_cmp_total nat_cmp-IsAntisymmetric _ c.len.ensures.ordered) ∙ ap entries c.self.view_is))
