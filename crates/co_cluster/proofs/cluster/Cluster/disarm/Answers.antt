use Rattle.std.proofs.Common.{◌≡◌, ◌<◌, length, sym, subst, arith}
use Rattle.co_cluster.proofs.Disarmed.{IsDisarmedTo, IsDoneTo, MemberDisarmed, CoordDisarmed, one_done, disarmed_stands, disarmed_held, disarmed_pins}
use Rattle.co_cluster.proofs.Places.{at_place}
use Rattle.co_cluster.proofs.cluster.Cluster.disarm.Given.{Over}
use Rattle.co_cluster.proofs.cluster.Cluster.disarm.Goals.{After-loop-place-2}
use Rattle.co_cluster.proofs.cluster.Cluster.disarm.Goals as goal

pub loop-place-preserved : goal.loop-place-preserved
loop-place-preserved g c =
    let d = c.loop-place.invariant in
    let l = d.members.len in
    let n = c.len-place-end.ensures in
    let t = c.loop-place-test.true in
    let place : c.loop-place.place < length c.loop-place.self.members.items = omega (arith, l, n, t) in
    record {
      members = one_done (MemberDisarmed g.E.Engine.stands_for g.E.Engine.pins) c.args.self.now.members.items c.loop-place.self.members.items c.loop-place.place c.index_mut.result.now c.disarm.new.self d.members
          (at_place c.loop-place.self.members.items c.loop-place.place c.index_mut.result.now place c.index_mut.ensures.value) (record { did = c.disarm.ensures.did; held = c.disarm.ensures.held; same = c.disarm.ensures.same; stay = c.disarm.ensures.pins });
      coords = d.coords;
    }

pub loop-place-2-preserved : goal.loop-place-2-preserved
loop-place-2-preserved g c =
    let d = c.loop-place-2.invariant in
    let did = c.disarm-in-loop-place-2 in
    let l = d.coords.len in
    let k = c.loop-place.invariant.coords.len in
    let n = c.len-place-end-2.ensures in
    let t = c.loop-place-2-test.true in
    let place : c.loop-place-2.place < length c.loop-place-2.self.coords.items = omega (arith, l, k, n, t) in
    record {
      members = d.members;
      coords = one_done CoordDisarmed c.args.self.now.coords.items c.loop-place-2.self.coords.items c.loop-place-2.place c.index_mut-in-loop-place-2.result.now did.new.self d.coords
          (at_place c.loop-place-2.self.coords.items c.loop-place-2.place c.index_mut-in-loop-place-2.result.now place c.index_mut-in-loop-place-2.ensures.value) (record { did = did.ensures.did; held = did.ensures.held; same = did.ensures.same });
    }

returns-all : (g : Over) (c : After-loop-place-2 g) → IsDisarmedTo g.E.Engine.stands_for g.E.Engine.pins c.args.self.now c.loop-place-2.self (length c.loop-place-2.self.members.items) (length c.loop-place-2.self.coords.items)
returns-all g c =
    let d = c.loop-place-2.invariant in
    let l = d.coords.len in
    let k = c.loop-place.invariant.coords.len in
    let n = c.len-place-end-2.ensures in
    let a = c.loop-place-2.auto.place-end in
    let t = c.loop-place-2-test.false in
    let all : c.loop-place-2.place ≡ length c.loop-place-2.self.coords.items = omega (arith, l, k, n, a, t) in
    record {
      members = subst (λ i. IsDoneTo (MemberDisarmed g.E.Engine.stands_for g.E.Engine.pins) c.args.self.now.members.items c.loop-place-2.self.members.items i) (sym d.members.len) d.members;
      coords = subst (λ i. IsDoneTo CoordDisarmed c.args.self.now.coords.items c.loop-place-2.self.coords.items i) all d.coords;
    }

pub returns-clause-stands : goal.returns-clause-stands
returns-clause-stands g c = disarmed_stands g.E.Engine.takes g.E.Engine.stands_for g.E.Engine.pins c.args.self.now c.loop-place-2.self (returns-all g c)

pub returns-clause-held : goal.returns-clause-held
returns-clause-held g c = disarmed_held g.E.Engine.takes g.E.Engine.stands_for g.E.Engine.pins c.args.self.now c.loop-place-2.self (returns-all g c)

pub returns-clause-pins : goal.returns-clause-pins
returns-clause-pins g c = disarmed_pins g.E.Engine.takes g.E.Engine.stands_for g.E.Engine.pins c.args.self.now c.loop-place-2.self (returns-all g c)
