use Rattle.std.proofs.Common.{ap, ◌∙◌}
use Rattle.std.specs.FinMap.{insert}
use Rattle.co_serial.proofs.MapViews.{view-insert}
use Rattle.co_locktab.specs.Holding.{joined}
use Rattle.co_locktab.proofs.Orders.{spans_total, spans_apart}
use Rattle.co_locktab.proofs.range_holders.RangeHolders.enter.Goals as goal

pub returns : goal.returns
returns c = view-insert spans_total spans_apart _ _ c.args.range c.join.new.self c.in_ok-insert.ensures.updates.0
    ∙ ap (λ m. insert m c.args.range c.join.new.self) c.self.view_is ∙ ap (insert c.args.self.now c.args.range) (c.in_ok-join.ensures ∙ ap (joined c.args.t) c.new-holders.ensures)
