use Rattle.std.proofs.Common.{◌≡◌, ◌∙◌, ◌+◌, ◌||◌, sym, ap, is_some, None, take}
use Rattle.co_order_check.specs.Reads.{left_from}
use Rattle.co_order_check.proofs.Looping.{left_more, or_true, or_false}
use Rattle.co_order_check.proofs.reads.leaves.Goals as goal
use Rattle.co_order_check.proofs.reads.leaves.Goals.{then-changes, else-changes}

pub loop-operation-preserved : goal.loop-operation-preserved
loop-operation-preserved c =
    let i = c.loop-operation.operation-index in
    let held = left_from c.args.id.now None (take i c.args.told.now) in
    let e = ap is_some (left_more c.args.id.now c.args.told.now i c.operation-item.result c.loop-operation-test.true c.operation-item.is) ∙ c.changes.ensures held in
    elim c.if-changes.branch [
      | then-changes w ↦ w.leaves-is ∙ sym (e ∙ ap (λ b. is_some held || b) w.if-changes.true ∙ or_true (is_some held))
      | else-changes w ↦ w.leaves-is ∙ c.loop-operation.invariant ∙ sym (e ∙ ap (λ b. is_some held || b) w.if-changes.false ∙ or_false (is_some held))
    ]
