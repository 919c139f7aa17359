use Rattle.std.proofs.Common.{◌≡◌, ◌<◌, ◌-◌, ℕ, length, suc, refl, sym, ap, ◌∙◌, arith, length-set}
use Rattle.std.specs.Vec.{with_item}
use Rattle.co_state.specs.Table.{Table, without}
use Rattle.co_cluster.proofs.Operated.{IsChangedAt, changed_held}
use Rattle.co_cluster.proofs.Pinned.{others_stay, pins_after, pins_before, same_stands}
use Rattle.co_cluster.proofs.Places.{at_place}
use Rattle.co_cluster.proofs.cluster.Cluster.unpin.Goals as goal

pub returns-clause-pins : goal.returns-clause-pins
returns-clause-pins g c =
    let w = c.args.self.now in
    let place : c.from.result - 1 < length w.members.items = omega arith in
    let next : suc (c.from.result - 1) ≡ c.args.member = omega arith in
    let below : c.from.result - 1 ≡ c.args.member - 1 = omega arith in
    let here = at_place w.members.items (c.from.result - 1) c.index_mut.result.now place c.index_mut.ensures.value in
    let after = record w { members = with_item w.members (c.from.result - 1) c.unpin_where_up.new.member } in
    let changed : IsChangedAt w after (c.from.result - 1) c.index_mut.result.now c.unpin_where_up.new.member = record { here = here; members = refl; coords = refl; same = c.unpin_where_up.ensures.same } in
    let old = pins_before g.E.Engine.pins w after (c.from.result - 1) c.index_mut.result.now c.unpin_where_up.new.member here refl c.args.member below in
    let new = pins_after g.E.Engine.pins w after (c.from.result - 1) c.index_mut.result.now c.unpin_where_up.new.member here refl c.args.member below in
    new ∙ c.unpin_where_up.ensures.pins ∙ ap (λ (t : Table ℕ). without t c.args.id) (sym old)

pub returns-clause-others : goal.returns-clause-others
returns-clause-others g c =
    let w = c.args.self.now in
    let place : c.from.result - 1 < length w.members.items = omega arith in
    let next : suc (c.from.result - 1) ≡ c.args.member = omega arith in
    let below : c.from.result - 1 ≡ c.args.member - 1 = omega arith in
    let here = at_place w.members.items (c.from.result - 1) c.index_mut.result.now place c.index_mut.ensures.value in
    let after = record w { members = with_item w.members (c.from.result - 1) c.unpin_where_up.new.member } in
    let changed : IsChangedAt w after (c.from.result - 1) c.index_mut.result.now c.unpin_where_up.new.member = record { here = here; members = refl; coords = refl; same = c.unpin_where_up.ensures.same } in
    others_stay g.E.Engine.pins w after (c.from.result - 1) c.index_mut.result.now c.unpin_where_up.new.member here refl c.args.member below (omega arith)

pub returns-clause-stands : goal.returns-clause-stands
returns-clause-stands g c = λ s r.
    let w = c.args.self.now in
    let place : c.from.result - 1 < length w.members.items = omega arith in
    let next : suc (c.from.result - 1) ≡ c.args.member = omega arith in
    let below : c.from.result - 1 ≡ c.args.member - 1 = omega arith in
    let here = at_place w.members.items (c.from.result - 1) c.index_mut.result.now place c.index_mut.ensures.value in
    let after = record w { members = with_item w.members (c.from.result - 1) c.unpin_where_up.new.member } in
    let changed : IsChangedAt w after (c.from.result - 1) c.index_mut.result.now c.unpin_where_up.new.member = record { here = here; members = refl; coords = refl; same = c.unpin_where_up.ensures.same } in
    let was = (r.member (c.from.result - 1) c.index_mut.result.now here).stands in
    same_stands g.E.Engine.takes g.E.Engine.stands_for w after (c.from.result - 1) c.index_mut.result.now c.unpin_where_up.new.member changed s r (c.unpin_where_up.ensures.stands (s.member (suc (c.from.result - 1))) was)

pub returns-clause-held : goal.returns-clause-held
returns-clause-held g c = λ home held.
    let w = c.args.self.now in
    let place : c.from.result - 1 < length w.members.items = omega arith in
    let next : suc (c.from.result - 1) ≡ c.args.member = omega arith in
    let below : c.from.result - 1 ≡ c.args.member - 1 = omega arith in
    let here = at_place w.members.items (c.from.result - 1) c.index_mut.result.now place c.index_mut.ensures.value in
    let after = record w { members = with_item w.members (c.from.result - 1) c.unpin_where_up.new.member } in
    let changed : IsChangedAt w after (c.from.result - 1) c.index_mut.result.now c.unpin_where_up.new.member = record { here = here; members = refl; coords = refl; same = c.unpin_where_up.ensures.same } in
    changed_held w after (c.from.result - 1) c.index_mut.result.now c.unpin_where_up.new.member changed home c.unpin_where_up.ensures.log held

pub returns-clause-head : goal.returns-clause-head
returns-clause-head g c =
    let w = c.args.self.now in
    let place : c.from.result - 1 < length w.members.items = omega arith in
    let next : suc (c.from.result - 1) ≡ c.args.member = omega arith in
    let below : c.from.result - 1 ≡ c.args.member - 1 = omega arith in
    let here = at_place w.members.items (c.from.result - 1) c.index_mut.result.now place c.index_mut.ensures.value in
    let after = record w { members = with_item w.members (c.from.result - 1) c.unpin_where_up.new.member } in
    let changed : IsChangedAt w after (c.from.result - 1) c.index_mut.result.now c.unpin_where_up.new.member = record { here = here; members = refl; coords = refl; same = c.unpin_where_up.ensures.same } in
    (length-set w.members.items (c.from.result - 1) c.unpin_where_up.new.member, refl)
