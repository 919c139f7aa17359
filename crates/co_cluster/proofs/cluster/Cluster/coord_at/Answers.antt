use Rattle.std.proofs.Common.{◌≡◌, ◌<◌, ◌-◌, length, suc, subst, arith}
use Rattle.co_opening.specs.Nodes.{IsCoordAt}
use Rattle.co_cluster.proofs.Places.{at_place}
use Rattle.co_cluster.proofs.cluster.Cluster.coord_at.Goals as goal

pub returns : goal.returns
returns g c = λ s r.
    let w = c.args.self.now in
    let place : c.from.result - 1 < length w.coords.items = omega arith in
    let next : suc (c.from.result - 1) ≡ c.args.coord = omega arith in
    let below : c.from.result - 1 ≡ c.args.coord - 1 = omega arith in
    let here = at_place w.coords.items (c.from.result - 1) c.index.result.now place c.index.ensures in
    subst (λ q. IsCoordAt (length s.kinds) q c.index.result.now (s.coord c.args.coord)) below
    (subst (λ k. IsCoordAt (length s.kinds) (c.from.result - 1) c.index.result.now (s.coord k)) next (r.coord (c.from.result - 1) c.index.result.now here))
