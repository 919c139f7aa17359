use Rattle.std.proofs.Common.{ap, ◌∙◌}
use Rattle.std.specs.FinMap.{remove}
use Rattle.co_serial.proofs.MapViews.{view-remove}
use Rattle.co_locktab.proofs.Orders.{keys_total, keys_apart}
use Rattle.co_locktab.proofs.key_index.KeyIndex.forget.Goals as goal

pub returns : goal.returns
returns c = view-remove keys_total keys_apart _ _ c.args.key.now c.remove.ensures.updates.0 ∙ ap (λ m. remove m c.args.key.now) c.self.view_is
