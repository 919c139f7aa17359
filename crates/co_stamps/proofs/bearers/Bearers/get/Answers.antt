use Rattle.std.proofs.Common.{ap, sym, ◌∙◌}
use Rattle.std.specs.FinMap.{get}
use Rattle.std.specs.Cmp.{nat_cmp_total}
use Rattle.co_serial.proofs.MapViews.{view-get}
use Rattle.co_stamps.proofs.bearers.Bearers.get.Goals as goal

pub returns : goal.returns
returns c = c.get.ensures.value ∙ sym (view-get nat_cmp_total _ _) ∙ ap (λ m. get m c.args.number) c.self.view_is
