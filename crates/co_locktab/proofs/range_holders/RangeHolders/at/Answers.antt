use Rattle.std.proofs.Common.{ap, sym, ◌∙◌}
use Rattle.std.specs.FinMap.{get}
use Rattle.co_serial.proofs.MapViews.{view-get}
use Rattle.co_locktab.proofs.Orders.{spans_total}
use Rattle.co_locktab.proofs.range_holders.RangeHolders.at.Goals as goal

pub returns : goal.returns
returns c = c.get.ensures.value ∙ sym (view-get spans_total _ _) ∙ ap (λ m. get m c.args.range.now) c.self.view_is
