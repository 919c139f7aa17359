use Rattle.std.proofs.Common.{◌≡◌, ◌<◌, ◌-◌, ℕ, length, suc, refl, sym, ap, ◌∙◌, arith}
use Rattle.std.specs.Vec.{with_item}
use Rattle.co_cluster.specs.Served.{of_node}
use Rattle.co_cluster.proofs.Operated.{IsChangedAt, changed_held, operated_at}
use Rattle.co_cluster.proofs.Pinned.{changed_pins}
use Rattle.co_cluster.proofs.Places.{at_place}
use Rattle.co_cluster.proofs.Ready.{few_kept_here}
use Rattle.co_cluster.proofs.cluster.Cluster.op.Goals as goal

pub op-requires-clause-up : goal.op-requires-clause-up
op-requires-clause-up g c =
    let w = c.args.self.now in
    let place : c.from.result - 1 < length w.members.items = omega arith in
    let next : suc (c.from.result - 1) ≡ c.args.member = omega arith in
    let here = at_place w.members.items (c.from.result - 1) c.index_mut.result.now place c.index_mut.ensures.value in
    let s = c.requires.stands.0 in
    let r = c.requires.stands.1 in
    sym (r.member (c.from.result - 1) c.index_mut.result.now here).stands.up ∙ ap (λ (k : ℕ). (s.member k).up) next ∙ c.requires.stands.3

pub op-requires-clause-stands : goal.op-requires-clause-stands
op-requires-clause-stands g c =
    let w = c.args.self.now in
    let place : c.from.result - 1 < length w.members.items = omega arith in
    let here = at_place w.members.items (c.from.result - 1) c.index_mut.result.now place c.index_mut.ensures.value in
    let s = c.requires.stands.0 in
    let r = c.requires.stands.1 in
    (s.member (suc (c.from.result - 1)), (r.member (c.from.result - 1) c.index_mut.result.now here).stands, few_kept_here s.coordinators (s.member (suc (c.from.result - 1))) c.args.t (c.requires.stands.2.whole.member (suc (c.from.result - 1))))

pub returns-in-Ok-clause-answer : goal.returns-in-Ok-clause-answer
returns-in-Ok-clause-answer g c = λ s r ready none.
    let w = c.args.self.now in
    let place : c.from.result - 1 < length w.members.items = omega arith in
    let next : suc (c.from.result - 1) ≡ c.args.member = omega arith in
    let here = at_place w.members.items (c.from.result - 1) c.index_mut.result.now place c.index_mut.ensures.value in
    let after = record w { members = with_item w.members (c.from.result - 1) c.op.new.self } in
    let changed : IsChangedAt w after (c.from.result - 1) c.index_mut.result.now c.op.new.self = record { here = here; members = refl; coords = refl; same = c.in-Ok.ensures.same } in
    (operated_at w after (c.from.result - 1) c.index_mut.result.now c.op.new.self changed g.E.Engine.takes g.E.Engine.stands_for s c.args.member c.args.t c.args.carried c.args.op.now c.in-Ok.answer next r ready none c.in-Ok.ensures.did).answer

pub returns-in-Ok-clause-stands : goal.returns-in-Ok-clause-stands
returns-in-Ok-clause-stands g c = λ s r ready none.
    let w = c.args.self.now in
    let place : c.from.result - 1 < length w.members.items = omega arith in
    let next : suc (c.from.result - 1) ≡ c.args.member = omega arith in
    let here = at_place w.members.items (c.from.result - 1) c.index_mut.result.now place c.index_mut.ensures.value in
    let after = record w { members = with_item w.members (c.from.result - 1) c.op.new.self } in
    let changed : IsChangedAt w after (c.from.result - 1) c.index_mut.result.now c.op.new.self = record { here = here; members = refl; coords = refl; same = c.in-Ok.ensures.same } in
    (operated_at w after (c.from.result - 1) c.index_mut.result.now c.op.new.self changed g.E.Engine.takes g.E.Engine.stands_for s c.args.member c.args.t c.args.carried c.args.op.now c.in-Ok.answer next r ready none c.in-Ok.ensures.did).state

pub returns-in-Ok-clause-held : goal.returns-in-Ok-clause-held
returns-in-Ok-clause-held g c = λ home held.
    let w = c.args.self.now in
    let place : c.from.result - 1 < length w.members.items = omega arith in
    let here = at_place w.members.items (c.from.result - 1) c.index_mut.result.now place c.index_mut.ensures.value in
    let after = record w { members = with_item w.members (c.from.result - 1) c.op.new.self } in
    let changed : IsChangedAt w after (c.from.result - 1) c.index_mut.result.now c.op.new.self = record { here = here; members = refl; coords = refl; same = c.in-Ok.ensures.same } in
    changed_held w after (c.from.result - 1) c.index_mut.result.now c.op.new.self changed home c.in-Ok.ensures.log held

pub returns-in-Err-clause-memory : goal.returns-in-Err-clause-memory
returns-in-Err-clause-memory g c =
    c.of_node.ensures ∙ ap of_node c.in-Err.ensures.memory

pub returns-in-Err-clause-held : goal.returns-in-Err-clause-held
returns-in-Err-clause-held g c = λ home held.
    let w = c.args.self.now in
    let place : c.from.result - 1 < length w.members.items = omega arith in
    let here = at_place w.members.items (c.from.result - 1) c.index_mut.result.now place c.index_mut.ensures.value in
    let after = record w { members = with_item w.members (c.from.result - 1) c.op.new.self } in
    let changed : IsChangedAt w after (c.from.result - 1) c.index_mut.result.now c.op.new.self = record { here = here; members = refl; coords = refl; same = c.in-Err.ensures.same } in
    changed_held w after (c.from.result - 1) c.index_mut.result.now c.op.new.self changed home c.in-Err.ensures.log held

pub returns-in-Ok-clause-pins : goal.returns-in-Ok-clause-pins
returns-in-Ok-clause-pins g c =
    let w = c.args.self.now in
    let place : c.from.result - 1 < length w.members.items = omega arith in
    let here = at_place w.members.items (c.from.result - 1) c.index_mut.result.now place c.index_mut.ensures.value in
    changed_pins g.E.Engine.pins w (record w { members = with_item w.members (c.from.result - 1) c.op.new.self }) (c.from.result - 1) c.index_mut.result.now c.op.new.self here refl c.in-Ok.ensures.pins

pub returns-in-Err-clause-pins : goal.returns-in-Err-clause-pins
returns-in-Err-clause-pins g c =
    let w = c.args.self.now in
    let place : c.from.result - 1 < length w.members.items = omega arith in
    let here = at_place w.members.items (c.from.result - 1) c.index_mut.result.now place c.index_mut.ensures.value in
    changed_pins g.E.Engine.pins w (record w { members = with_item w.members (c.from.result - 1) c.op.new.self }) (c.from.result - 1) c.index_mut.result.now c.op.new.self here refl c.in-Err.ensures.pins
