use Rattle.std.proofs.Common.{◌≡◌, ◌<◌, ◌-◌, length, suc, subst, arith}
use Rattle.co_opening.specs.Nodes.{IsMemberAt}
use Rattle.co_cluster.proofs.Places.{at_place}
use Rattle.co_cluster.proofs.cluster.Cluster.member_at.Goals as goal

pub returns : goal.returns
returns g c = λ s r.
    let w = c.args.self.now in
    let place : c.from.result - 1 < length w.members.items = omega arith in
    let next : suc (c.from.result - 1) ≡ c.args.member = omega arith in
    let below : c.from.result - 1 ≡ c.args.member - 1 = omega arith in
    let here = at_place w.members.items (c.from.result - 1) c.index.result.now place c.index.ensures in
    subst (λ q. IsMemberAt g.E.Engine.takes g.E.Engine.stands_for s.coordinators q c.index.result.now (s.member c.args.member)) below
    (subst (λ k. IsMemberAt g.E.Engine.takes g.E.Engine.stands_for s.coordinators (c.from.result - 1) c.index.result.now (s.member k)) next
    (r.member (c.from.result - 1) c.index.result.now here))
