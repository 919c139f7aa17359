use Rattle.std.proofs.Common.{◌≡◌, ◌<◌, ◌-◌, ℕ, length, suc, refl, sym, subst, arith, length-set}
use Rattle.std.specs.Vec.{with_item}
use Rattle.std.specs.Prelude.{IfOk}
use Rattle.co_cluster.specs.Pins.{HasPinnedAt, pins_at}
use Rattle.co_member.specs.Pins.{pins_of}
use Rattle.co_member.specs.Standing.{RepresentsMember}
use Rattle.co_state.proofs.Tables.{on_ok}
use Rattle.co_state.specs.Table.{Table}
use Rattle.co_cluster.proofs.Operated.{IsChangedAt, changed_held}
use Rattle.co_cluster.proofs.Pinned.{others_stay, pins_after, pins_before, same_stands}
use Rattle.co_cluster.proofs.Places.{at_place}
use Rattle.co_cluster.proofs.cluster.Cluster.pin.Goals as goal

pub returns-clause-pinned : goal.returns-clause-pinned
returns-clause-pinned g c = λ s r.
    let w = c.args.self.now in
    let place : c.from.result - 1 < length w.members.items = omega arith in
    let next : suc (c.from.result - 1) ≡ c.args.member = omega arith in
    let below : c.from.result - 1 ≡ c.args.member - 1 = omega arith in
    let here = at_place w.members.items (c.from.result - 1) c.index_mut.result.now place c.index_mut.ensures.value in
    let after = record w { members = with_item w.members (c.from.result - 1) c.pin_where_up.new.member } in
    let changed : IsChangedAt w after (c.from.result - 1) c.index_mut.result.now c.pin_where_up.new.member = record { here = here; members = refl; coords = refl; same = c.pin_where_up.ensures.same } in
    let old = pins_before g.E.Engine.pins w after (c.from.result - 1) c.index_mut.result.now c.pin_where_up.new.member here refl c.args.member below in
    let new = pins_after g.E.Engine.pins w after (c.from.result - 1) c.index_mut.result.now c.pin_where_up.new.member here refl c.args.member below in
    let was = subst (λ (k : ℕ). RepresentsMember g.E.Engine.stands_for c.index_mut.result.now (s.member k)) next (r.member (c.from.result - 1) c.index_mut.result.now here).stands in
    subst (λ (t : Table ℕ). IfOk c.pin_where_up.result (HasPinnedAt (s.member c.args.member) c.args.id t (pins_at g.E.Engine.pins after c.args.member))) (sym old)
    (subst (λ (t : Table ℕ). IfOk c.pin_where_up.result (HasPinnedAt (s.member c.args.member) c.args.id (pins_of g.E.Engine.pins c.index_mut.result.now) t)) (sym new) (c.pin_where_up.ensures.pinned (s.member c.args.member) was))

pub returns-clause-others : goal.returns-clause-others
returns-clause-others g c =
    let w = c.args.self.now in
    let place : c.from.result - 1 < length w.members.items = omega arith in
    let next : suc (c.from.result - 1) ≡ c.args.member = omega arith in
    let below : c.from.result - 1 ≡ c.args.member - 1 = omega arith in
    let here = at_place w.members.items (c.from.result - 1) c.index_mut.result.now place c.index_mut.ensures.value in
    let after = record w { members = with_item w.members (c.from.result - 1) c.pin_where_up.new.member } in
    let changed : IsChangedAt w after (c.from.result - 1) c.index_mut.result.now c.pin_where_up.new.member = record { here = here; members = refl; coords = refl; same = c.pin_where_up.ensures.same } in
    others_stay g.E.Engine.pins w after (c.from.result - 1) c.index_mut.result.now c.pin_where_up.new.member here refl c.args.member below (omega arith)

pub returns-clause-stands : goal.returns-clause-stands
returns-clause-stands g c = λ s r.
    let w = c.args.self.now in
    let place : c.from.result - 1 < length w.members.items = omega arith in
    let next : suc (c.from.result - 1) ≡ c.args.member = omega arith in
    let below : c.from.result - 1 ≡ c.args.member - 1 = omega arith in
    let here = at_place w.members.items (c.from.result - 1) c.index_mut.result.now place c.index_mut.ensures.value in
    let after = record w { members = with_item w.members (c.from.result - 1) c.pin_where_up.new.member } in
    let changed : IsChangedAt w after (c.from.result - 1) c.index_mut.result.now c.pin_where_up.new.member = record { here = here; members = refl; coords = refl; same = c.pin_where_up.ensures.same } in
    let was = (r.member (c.from.result - 1) c.index_mut.result.now here).stands in
    on_ok c.pin_where_up.result (same_stands g.E.Engine.takes g.E.Engine.stands_for w after (c.from.result - 1) c.index_mut.result.now c.pin_where_up.new.member changed s r) (c.pin_where_up.ensures.stands (s.member (suc (c.from.result - 1))) was)

pub returns-clause-held : goal.returns-clause-held
returns-clause-held g c = λ home held.
    let w = c.args.self.now in
    let place : c.from.result - 1 < length w.members.items = omega arith in
    let next : suc (c.from.result - 1) ≡ c.args.member = omega arith in
    let below : c.from.result - 1 ≡ c.args.member - 1 = omega arith in
    let here = at_place w.members.items (c.from.result - 1) c.index_mut.result.now place c.index_mut.ensures.value in
    let after = record w { members = with_item w.members (c.from.result - 1) c.pin_where_up.new.member } in
    let changed : IsChangedAt w after (c.from.result - 1) c.index_mut.result.now c.pin_where_up.new.member = record { here = here; members = refl; coords = refl; same = c.pin_where_up.ensures.same } in
    changed_held w after (c.from.result - 1) c.index_mut.result.now c.pin_where_up.new.member changed home c.pin_where_up.ensures.log held

pub returns-clause-head : goal.returns-clause-head
returns-clause-head g c =
    let w = c.args.self.now in
    let place : c.from.result - 1 < length w.members.items = omega arith in
    let next : suc (c.from.result - 1) ≡ c.args.member = omega arith in
    let below : c.from.result - 1 ≡ c.args.member - 1 = omega arith in
    let here = at_place w.members.items (c.from.result - 1) c.index_mut.result.now place c.index_mut.ensures.value in
    let after = record w { members = with_item w.members (c.from.result - 1) c.pin_where_up.new.member } in
    let changed : IsChangedAt w after (c.from.result - 1) c.index_mut.result.now c.pin_where_up.new.member = record { here = here; members = refl; coords = refl; same = c.pin_where_up.ensures.same } in
    (length-set w.members.items (c.from.result - 1) c.pin_where_up.new.member, refl)
