use Rattle.std.proofs.Common.{List, ℕ, [], ◌∷◌, ◌++◌, ◌+◌, drop, refl, sym, ap, ◌∙◌, append_assoc}
use Rattle.co_message.specs.declared.item.Item.{Item}
use Rattle.co_replay.specs.Transcript.{items_text}
use Rattle.co_replay.proofs.Appended.{items_text-append}
use Rattle.co_trial.proofs.Runs.{drop_at}
use Rattle.co_trial.proofs.tally.Told.tell_all.Goals as goal

pub loop-item-init : goal.loop-item-init
loop-item-init c = λ text h. (text, h, refl)

pub loop-item-preserved : goal.loop-item-preserved
loop-item-preserved c = λ text h.
    let i = c.loop-item.invariant text h in
    let d = drop_at c.args.items.now c.loop-item.item-index c.item-item.result c.loop-item-test.true c.item-item.is in
    let x : Item = c.item-item.result in
    let rest : List Item = drop (c.loop-item.item-index + 1) c.args.items.now in (
      i.0 ++ items_text (x ∷ []),
      c.in_ok-tell.ensures i.0 i.1,
      append_assoc i.0 (items_text (x ∷ [])) (items_text rest) ∙ ap (λ (t : List ℕ). i.0 ++ t) (sym (items_text-append (x ∷ []) rest)) ∙ ap (λ (xs : List Item). i.0 ++ items_text xs) (sym d) ∙ i.2,
    )
