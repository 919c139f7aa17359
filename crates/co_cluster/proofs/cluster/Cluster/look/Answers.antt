use Rattle.std.proofs.Common.{◌≡◌, ◌<◌, ◌-◌, ℕ, length, suc, sym, subst, arith}
use Rattle.std.specs.Prelude.{IfOk}
use Rattle.co_engine.specs.Pins.{pinned_rows}
use Rattle.co_member.specs.Standing.{RepresentsMember}
use Rattle.co_state.specs.Table.{Table, look}
use Rattle.co_cluster.proofs.Pinned.{pins_of_place}
use Rattle.co_cluster.proofs.Places.{at_place}
use Rattle.co_cluster.proofs.cluster.Cluster.look.Goals as goal

pub returns : goal.returns
returns g c = λ s r.
    let w = c.args.self.now in
    let place : c.from.result - 1 < length w.members.items = omega arith in
    let next : suc (c.from.result - 1) ≡ c.args.member = omega arith in
    let below : c.from.result - 1 ≡ c.args.member - 1 = omega arith in
    let here = at_place w.members.items (c.from.result - 1) c.index.result.now place c.index.ensures in
    let was = subst (λ (k : ℕ). RepresentsMember g.E.Engine.stands_for c.index.result.now (s.member k)) next (r.member (c.from.result - 1) c.index.result.now here).stands in
    let pins = pins_of_place g.E.Engine.pins w (c.from.result - 1) c.index.result.now here c.args.member below in
    subst (λ (t : Table ℕ). IfOk c.look_where_up.result (λ rows. rows ≡ pinned_rows (s.member c.args.member).engine c.args.range.now (look t c.args.id))) (sym pins) (c.look_where_up.ensures (s.member c.args.member) was)
