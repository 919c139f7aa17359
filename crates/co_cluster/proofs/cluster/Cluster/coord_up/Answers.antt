use Rattle.std.proofs.Common.{◌≡◌, ◌<◌, ◌-◌, length, suc, sym, ap, ◌∙◌, arith}
use Rattle.std.specs.Prelude.{ℕ}
use Rattle.co_cluster.proofs.Places.{at_place}
use Rattle.co_cluster.proofs.Doing.{coord_up_is}
use Rattle.co_cluster.proofs.cluster.Cluster.coord_up.Goals as goal

pub returns : goal.returns
returns g c = λ s r.
    let w = c.args.self.now in
    let place : c.from.result - 1 < length w.coords.items = omega arith in
    let next : suc (c.from.result - 1) ≡ c.args.coord = omega arith in
    let here = at_place w.coords.items (c.from.result - 1) c.index.result.now place c.index.ensures in
    let up = coord_up_is g.E.Engine.takes g.E.Engine.stands_for w s (c.from.result - 1) c.index.result.now r here in
    c.up.ensures ∙ sym up ∙ ap (λ (k : ℕ). (s.coord k).up) next
