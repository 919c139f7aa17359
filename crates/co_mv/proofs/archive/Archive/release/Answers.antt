use Rattle.std.proofs.Common.{ap, ◌∙◌}
use Rattle.co_mv.specs.Recents.{keys_at}
use Rattle.co_mv.proofs.Forgetting.{keeps_narrowed, keeps_forgotten, number_bound}
use Rattle.co_mv.proofs.archive.Archive.release.Goals as goal

pub returns-in-Some-clause-keeps : goal.returns-in-Some-clause-keeps
returns-in-Some-clause-keeps c = λ held base is r k.
    let a = c.args.self.now in
    keeps_narrowed (record a { snapshots = held }) c.prune.new.self base is a.snapshots c.args.number c.next_from-next.result c.in-Some.before c.narrower-from.result r
    (c.next_from-next.ensures (number_bound (record a { snapshots = held }) base is a.snapshots c.args.number r k))
    c.in-Some.ensures c.narrower-from.ensures c.prune.ensures k

pub returns-in-None-clause-keeps : goal.returns-in-None-clause-keeps
returns-in-None-clause-keeps c = λ held base is r k.
    let a = c.args.self.now in
    let pruned = c.prune-in-None.ensures in
    keeps_forgotten (record a { snapshots = held }) _ base is a.snapshots c.args.number c.next_from-next.result r
    (c.next_from-next.ensures (number_bound (record a { snapshots = held }) base is a.snapshots c.args.number r k))
    c.in-None.ensures pruned.snapshots_stay pruned.pruned
    (λ n h. c.forget_window.ensures.later n h ∙ ap (λ r. keys_at r n) pruned.recents_stay)
    c.forget_window.ensures.gone
    (λ n h. c.forget_window.ensures.earlier n h ∙ ap (λ r. keys_at r n) pruned.recents_stay)
    k
