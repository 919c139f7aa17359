use Rattle.std.proofs.Common.{◌≤◌, ◌∙◌, ◌∷◌, length, take, reverse, ap, sym, arith, take_all}
use Rattle.std.proofs.lemmas.List.{take_more, reverse-append, reverse-reverse}
use Rattle.co_check.proofs.copies.copy_told.Goals as goal

pub loop-operation-preserved : goal.loop-operation-preserved
loop-operation-preserved c =
    let items = c.oldest_first-operation-items.result.now in
    let i = c.loop-operation.operation-index in
    let same = c.in_ok-copy_answered.ensures ∙ c.operation-item.is in
    c.in_ok-push.ensures.ok ∙ (λ j. same j ∷ c.loop-operation.invariant j)
    ∙ sym (ap reverse (take_more items i c.operation-item.result c.loop-operation-test.true) ∙ reverse-append (take i items) _)

pub returns : goal.returns
returns c =
    let items = c.oldest_first-operation-items.result.now in
    let whole : length items ≤ c.loop-operation.operation-index = omega arith in
    c.loop-operation.invariant ∙ ap reverse (take_all c.loop-operation.operation-index items whole) ∙ ap reverse c.oldest_first-operation-items.ensures ∙ reverse-reverse c.args.told.now
