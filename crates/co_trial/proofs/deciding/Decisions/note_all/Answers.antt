use Rattle.std.proofs.Common.{List, [], ◌∷◌, ◌+◌, drop, refl, sym, ap, ◌∙◌}
use Rattle.co_message.specs.declared.item.Item.{Item}
use Rattle.co_plain.specs.Federation.{decide_all}
use Rattle.co_trial.specs.Decisions.{marks_of}
use Rattle.co_trial.proofs.Runs.{drop_at, one_item}
use Rattle.co_trial.proofs.deciding.Decisions.note_all.Goals as goal

pub loop-item-init : goal.loop-item-init
loop-item-init g c = λ s0 s decided r a. (decided, a, refl)

pub loop-item-preserved : goal.loop-item-preserved
loop-item-preserved g c = λ s0 s decided r a.
    let i = c.loop-item.invariant s0 s decided r a in
    let d = drop_at c.args.items.now c.loop-item.item-index c.item-item.result c.loop-item-test.true c.item-item.is in (
      decide_all s.sessions i.0 (marks_of (c.item-item.result ∷ [])),
      c.in_ok-note_item.ensures s0 s i.0 r i.1,
      sym (one_item s.sessions i.0 c.item-item.result (drop (c.loop-item.item-index + 1) c.args.items.now)) ∙ ap (λ (xs : List Item). decide_all s.sessions i.0 (marks_of xs)) (sym d) ∙ i.2,
    )
