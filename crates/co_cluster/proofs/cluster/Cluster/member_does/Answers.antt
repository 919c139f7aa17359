use Rattle.std.proofs.Common.{◌≡◌, ◌<◌, ◌-◌, length, suc, refl, sym, subst, arith}
use Rattle.std.specs.Prelude.{ℕ}
use Rattle.std.specs.Vec.{with_item}
use Rattle.co_base.specs.declared.node.Node.TheVariants as node
use Rattle.co_opening.proofs.Rests.{node_changes}
use Rattle.co_cluster.specs.Calls.{MemberMay, member_does}
use Rattle.co_plain.specs.Federation.{with_member}
use Rattle.co_plain.specs.Step.{disarmed}
use Rattle.co_cluster.specs.Left.{AreLeftWith, member_disarmed}
use Rattle.co_cluster.proofs.Kept.{kept_by_member}
use Rattle.co_cluster.proofs.Lefts.{member_fault}
use Rattle.co_cluster.proofs.Pinned.{changed_pins}
use Rattle.co_cluster.proofs.Places.{at_place}
use Rattle.co_cluster.proofs.Doing.{are_numbered, member_asked, member_did}
use Rattle.co_cluster.proofs.cluster.Cluster.member_does.Goals as goal

pub member_does-requires-clause-kept : goal.member_does-requires-clause-kept
member_does-requires-clause-kept g c =
    let w = c.args.self.now in
    let place : c.from.result - 1 < length w.members.items = omega arith in
    let here = at_place w.members.items (c.from.result - 1) c.index_mut.result.now place c.index_mut.ensures.value in
    c.requires.held.member (c.from.result - 1) c.index_mut.result.now here

pub member_does-requires-clause-taken : goal.member_does-requires-clause-taken
member_does-requires-clause-taken g c =
    let w = c.args.self.now in
    let place : c.from.result - 1 < length w.members.items = omega arith in
    let here = at_place w.members.items (c.from.result - 1) c.index_mut.result.now place c.index_mut.ensures.value in
    (c.requires.stands.1.member (c.from.result - 1) c.index_mut.result.now here).taken

pub member_does-requires-clause-stands : goal.member_does-requires-clause-stands
member_does-requires-clause-stands g c =
    let w = c.args.self.now in
    let place : c.from.result - 1 < length w.members.items = omega arith in
    let next : suc (c.from.result - 1) ≡ c.args.member = omega arith in
    let here = at_place w.members.items (c.from.result - 1) c.index_mut.result.now place c.index_mut.ensures.value in
    let s = c.requires.stands.0 in
    let asked = member_asked g.E.Engine.takes g.E.Engine.stands_for w s (c.from.result - 1) c.index_mut.result.now c.args.call c.requires.stands.1 here
    (subst (λ (k : ℕ). MemberMay s.coordinators c.args.call (s.member k)) (sym next) c.requires.stands.2) in
    asked.stands

pub returns-in-Ok-clause-told : goal.returns-in-Ok-clause-told
returns-in-Ok-clause-told g c = λ s r.
    let w = c.args.self.now in
    let place : c.from.result - 1 < length w.members.items = omega arith in
    let next : suc (c.from.result - 1) ≡ c.args.member = omega arith in
    let here = at_place w.members.items (c.from.result - 1) c.index_mut.result.now place c.index_mut.ensures.value in
    (member_did g.E.Engine.takes g.E.Engine.stands_for w (record w { members = with_item w.members (c.from.result - 1) c.member_does.new.member }) s c.args.member (c.from.result - 1) c.index_mut.result.now c.member_does.new.member c.args.call c.in-Ok.did next r here refl refl c.in-Ok.ensures.same c.in-Ok.ensures.did).told

pub returns-in-Ok-clause-stands : goal.returns-in-Ok-clause-stands
returns-in-Ok-clause-stands g c = λ s r.
    let w = c.args.self.now in
    let place : c.from.result - 1 < length w.members.items = omega arith in
    let next : suc (c.from.result - 1) ≡ c.args.member = omega arith in
    let here = at_place w.members.items (c.from.result - 1) c.index_mut.result.now place c.index_mut.ensures.value in
    (member_did g.E.Engine.takes g.E.Engine.stands_for w (record w { members = with_item w.members (c.from.result - 1) c.member_does.new.member }) s c.args.member (c.from.result - 1) c.index_mut.result.now c.member_does.new.member c.args.call c.in-Ok.did next r here refl refl c.in-Ok.ensures.same c.in-Ok.ensures.did).stands

pub returns-in-Ok-clause-served : goal.returns-in-Ok-clause-served
returns-in-Ok-clause-served g c =
    let w = c.args.self.now in
    let place : c.from.result - 1 < length w.members.items = omega arith in
    let next : suc (c.from.result - 1) ≡ c.args.member = omega arith in
    let here = at_place w.members.items (c.from.result - 1) c.index_mut.result.now place c.index_mut.ensures.value in
    let s = c.requires.stands.0 in
    let are = are_numbered g.E.Engine.takes g.E.Engine.stands_for w s c.requires.stands.1 in
    let old = g.H.Home.seen c.args.home.now in
    let new = g.H.Home.seen c.member_does.new.home in
    let served = c.in-Ok.ensures.served in
    record {
      kept = kept_by_member w.members.items w.coords.items are old new c.requires.held (c.from.result - 1) c.index_mut.result.now c.member_does.new.member here c.in-Ok.ensures.same.number c.in-Ok.ensures.rest.others served.kept;
      clean = served.clean;
      quiet = served.quiet;
    }

pub returns-in-Err-clause-left : goal.returns-in-Err-clause-left
returns-in-Err-clause-left g c = λ s r.
    let w = c.args.self.now in
    let place : c.from.result - 1 < length w.members.items = omega arith in
    let next : suc (c.from.result - 1) ≡ c.args.member = omega arith in
    let here = at_place w.members.items (c.from.result - 1) c.index_mut.result.now place c.index_mut.ensures.value in
    subst (AreLeftWith (g.H.Home.seen c.member_does.new.home).file s (with_member (disarmed s) c.args.member (member_does c.args.member c.args.call (member_disarmed (s.member c.args.member))).state)) (sym c.of_node.ensures)
    (member_fault g.E.Engine.takes g.E.Engine.stands_for w s r (g.H.Home.seen c.args.home.now) (g.H.Home.seen c.member_does.new.home) c.requires.held c.args.member (c.from.result - 1) c.index_mut.result.now c.args.call next here c.in-Err.ensures.rest.others c.in-Err.fault c.in-Err.ensures.left)

pub returns-in-Ok-clause-rest : goal.returns-in-Ok-clause-rest
returns-in-Ok-clause-rest g c =
    let w = c.args.self.now in
    let place : c.from.result - 1 < length w.members.items = omega arith in
    let here = at_place w.members.items (c.from.result - 1) c.index_mut.result.now place c.index_mut.ensures.value in
    let number = (c.requires.stands.1.member (c.from.result - 1) c.index_mut.result.now here).number in
    node_changes (length w.members.items) (length w.coords.items) (node.Member c.index_mut.result.now.number) (g.H.Home.seen c.args.home.now) (g.H.Home.seen c.member_does.new.home) (omega (arith, number), omega (arith, number, place)) c.in-Ok.ensures.rest

pub returns-in-Err-clause-rest : goal.returns-in-Err-clause-rest
returns-in-Err-clause-rest g c =
    let w = c.args.self.now in
    let place : c.from.result - 1 < length w.members.items = omega arith in
    let here = at_place w.members.items (c.from.result - 1) c.index_mut.result.now place c.index_mut.ensures.value in
    let number = (c.requires.stands.1.member (c.from.result - 1) c.index_mut.result.now here).number in
    node_changes (length w.members.items) (length w.coords.items) (node.Member c.index_mut.result.now.number) (g.H.Home.seen c.args.home.now) (g.H.Home.seen c.member_does.new.home) (omega (arith, number), omega (arith, number, place)) c.in-Err.ensures.rest

pub returns-in-Ok-clause-pins : goal.returns-in-Ok-clause-pins
returns-in-Ok-clause-pins g c =
    let w = c.args.self.now in
    let place : c.from.result - 1 < length w.members.items = omega arith in
    let here = at_place w.members.items (c.from.result - 1) c.index_mut.result.now place c.index_mut.ensures.value in
    changed_pins g.E.Engine.pins w (record w { members = with_item w.members (c.from.result - 1) c.member_does.new.member }) (c.from.result - 1) c.index_mut.result.now c.member_does.new.member here refl c.in-Ok.ensures.pins

pub returns-in-Err-clause-pins : goal.returns-in-Err-clause-pins
returns-in-Err-clause-pins g c =
    let w = c.args.self.now in
    let place : c.from.result - 1 < length w.members.items = omega arith in
    let here = at_place w.members.items (c.from.result - 1) c.index_mut.result.now place c.index_mut.ensures.value in
    changed_pins g.E.Engine.pins w (record w { members = with_item w.members (c.from.result - 1) c.member_does.new.member }) (c.from.result - 1) c.index_mut.result.now c.member_does.new.member here refl c.in-Err.ensures.pins
