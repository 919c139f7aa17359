use Rattle.std.proofs.Common.{◌+◌, ◌∷◌, drop, sym, ap, subst, ◌∙◌}
use Rattle.std.proofs.lemmas.List.{drop_more}
use Rattle.co_mv.specs.Chains.{Chains, pruned_all}
use Rattle.co_mv.specs.Kept.{needed, WereAllKept}
use Rattle.co_mv.specs.Versions.{stays}
use Rattle.co_mv.proofs.Chaining.{were_pruned}
use Rattle.co_mv.proofs.chains.Chains.prune_all.Goals as goal

pub loop-key-preserved : goal.loop-key-preserved
loop-key-preserved c = λ were.
    let s = c.args.snapshots.now in
    let n = c.args.number in
    let keep = stays n (needed s) in
    let m = c.loop-key.self in
    let keys = c.args.keys.now in
    let key = c.key-item.result in
    let before = c.loop-key.invariant were in
    let is = c.prune.ensures (before.0 key) in
    let next = drop_more keys c.loop-key.key-index key c.loop-key-test.true ∙ ap (λ k. k ∷ drop (c.loop-key.key-index + 1) keys) (sym c.key-item.is) in (
      subst (λ (m : Chains). WereAllKept s n m) (sym is) (were_pruned s n keep m key before.0),
      ap (λ (m : Chains). pruned_all keep m (drop (c.loop-key.key-index + 1) keys)) is ∙ sym (ap (pruned_all keep m) next) ∙ before.1,
    )
