use Rattle.std.proofs.Common.{◌+◌, ◌∷◌, drop, ap, sym, ◌∙◌, option_copied}
use Rattle.std.proofs.lemmas.List.{drop_more, drop_all}
use Rattle.co_index.proofs.Laying.{value_after, get-with_changes}
use Rattle.co_index.proofs.overlay.value_after.Goals as goal

pub loop-change-preserved : goal.loop-change-preserved
loop-change-preserved c =
    let at = c.loop-change.change-index in
    let ws = c.args.changes.now in
    ap (λ v. value_after v (drop (at + 1) ws) c.args.key.now) c.changed-seen.ensures
    ∙ ap (λ vs. value_after (option_copied c.loop-change.seen) vs c.args.key.now)
    (ap (λ x. x ∷ drop (at + 1) ws) c.change-item.is ∙ sym (drop_more ws at c.change-item.result c.loop-change-test.true))
    ∙ c.loop-change.invariant

pub returns : goal.returns
returns c = λ records is.
    sym (ap (λ ws. value_after (option_copied c.loop-change.seen) ws c.args.key.now) (drop_all c.loop-change.change-index c.args.changes.now c.loop-change-test.false))
    ∙ c.loop-change.invariant ∙ ap (λ v. value_after v c.args.changes.now c.args.key.now) (sym is)
    ∙ sym (get-with_changes records c.args.changes.now c.args.key.now)
