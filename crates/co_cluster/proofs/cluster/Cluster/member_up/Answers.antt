use Rattle.std.proofs.Common.{◌≡◌, ◌<◌, ◌-◌, length, suc, sym, ap, ◌∙◌, arith}
use Rattle.std.specs.Prelude.{ℕ}
use Rattle.co_cluster.proofs.Places.{at_place}
use Rattle.co_cluster.proofs.Doing.{member_up_is}
use Rattle.co_cluster.proofs.cluster.Cluster.member_up.Goals as goal

pub returns : goal.returns
returns g c = λ s r.
    let w = c.args.self.now in
    let place : c.from.result - 1 < length w.members.items = omega arith in
    let next : suc (c.from.result - 1) ≡ c.args.member = omega arith in
    let here = at_place w.members.items (c.from.result - 1) c.index.result.now place c.index.ensures in
    let up = member_up_is g.E.Engine.takes g.E.Engine.stands_for w s (c.from.result - 1) c.index.result.now r here in
    c.up.ensures ∙ sym up ∙ ap (λ (k : ℕ). (s.member k).up) next
