use Rattle.std.proofs.Common.{ap, ◌∙◌}
use Rattle.co_serial.specs.Records.{with_change}
use Rattle.co_serial.proofs.Layers.{laid_more}
use Rattle.co_serial.proofs.record_map.RecordMap.lay.Goals as goal

pub loop-change-preserved : goal.loop-change-preserved
loop-change-preserved c =
    c.in_ok-change-2.ensures.ok ∙ ap (λ w. with_change c.loop-change.self w.key w.value) c.in_ok-change.ensures
    ∙ laid_more _ _ _ c.loop-change.change-index c.change-item.result c.loop-change-test.true c.change-item.is c.loop-change.invariant
