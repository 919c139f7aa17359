use Rattle.std.proofs.Common.{ap, ◌∙◌, reverse}
use Rattle.co_mv.specs.Kept.{needed}
use Rattle.co_mv.specs.Ordered.{forgotten_at}
use Rattle.co_mv.specs.Versions.{stays}
use Rattle.co_mv.proofs.Ordering.{both_at, first_at, pruned_around}
use Rattle.co_mv.proofs.chain.Chain.prune.Goals as goal

pub returns-then-later-gt0 : goal.returns-then-later-gt0
returns-then-later-gt0 c = λ were.
    let keep = stays c.args.number (needed c.args.snapshots.now) in
    let items = c.self.inside.oldest_first.items in
    let count = c.count_until-later in
    ap reverse (c.forget-then-later-gt0.ensures ∙ ap (forgotten_at keep _) c.forget.ensures ∙ both_at keep count.result items c.if-later-gt0.true)
    ∙ pruned_around c.args.snapshots.now c.args.number _ items c.args.self.now count.result c.as_slice.ensures.value c.self.view_is count.ensures.bound count.ensures.count were

pub returns-else-later-gt0 : goal.returns-else-later-gt0
returns-else-later-gt0 c = λ were.
    let keep = stays c.args.number (needed c.args.snapshots.now) in
    let items = c.self.inside.oldest_first.items in
    let count = c.count_until-later in
    ap reverse (c.forget.ensures ∙ first_at keep count.result items c.if-later-gt0.false)
    ∙ pruned_around c.args.snapshots.now c.args.number _ items c.args.self.now count.result c.as_slice.ensures.value c.self.view_is count.ensures.bound count.ensures.count were
