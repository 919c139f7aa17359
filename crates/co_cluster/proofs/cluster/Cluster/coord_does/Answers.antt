use Rattle.std.proofs.Common.{◌≡◌, ◌<◌, ◌-◌, length, suc, refl, sym, subst, arith}
use Rattle.std.specs.Prelude.{ℕ}
use Rattle.std.specs.Vec.{with_item}
use Rattle.co_base.specs.declared.node.Node.TheVariants as node
use Rattle.co_opening.proofs.Rests.{node_changes}
use Rattle.co_cluster.specs.Calls.{CoordMay, coord_does}
use Rattle.co_plain.specs.Federation.{with_coord}
use Rattle.co_plain.specs.Step.{disarmed}
use Rattle.co_cluster.specs.Left.{AreLeftWith, coord_disarmed}
use Rattle.co_cluster.proofs.Kept.{kept_by_coord}
use Rattle.co_cluster.proofs.Lefts.{coord_fault}
use Rattle.co_cluster.proofs.Places.{at_place}
use Rattle.co_cluster.proofs.Doing.{are_numbered, coord_asked, coord_did}
use Rattle.co_cluster.proofs.cluster.Cluster.coord_does.Goals as goal

pub coord_does-requires-clause-kept : goal.coord_does-requires-clause-kept
coord_does-requires-clause-kept g c =
    let w = c.args.self.now in
    let place : c.from.result - 1 < length w.coords.items = omega arith in
    let here = at_place w.coords.items (c.from.result - 1) c.index_mut.result.now place c.index_mut.ensures.value in
    c.requires.held.coord (c.from.result - 1) c.index_mut.result.now here

pub coord_does-requires-clause-stands : goal.coord_does-requires-clause-stands
coord_does-requires-clause-stands g c =
    let w = c.args.self.now in
    let place : c.from.result - 1 < length w.coords.items = omega arith in
    let next : suc (c.from.result - 1) ≡ c.args.coord = omega arith in
    let here = at_place w.coords.items (c.from.result - 1) c.index_mut.result.now place c.index_mut.ensures.value in
    let s = c.requires.stands.0 in
    coord_asked g.E.Engine.takes g.E.Engine.stands_for w s (c.from.result - 1) c.index_mut.result.now c.args.call c.requires.stands.1 here
    (subst (λ (k : ℕ). CoordMay (length s.kinds) k c.args.call (s.coord k)) (sym next) c.requires.stands.2)

pub returns-in-Ok-clause-told : goal.returns-in-Ok-clause-told
returns-in-Ok-clause-told g c = λ s r.
    let w = c.args.self.now in
    let place : c.from.result - 1 < length w.coords.items = omega arith in
    let next : suc (c.from.result - 1) ≡ c.args.coord = omega arith in
    let here = at_place w.coords.items (c.from.result - 1) c.index_mut.result.now place c.index_mut.ensures.value in
    (coord_did g.E.Engine.takes g.E.Engine.stands_for w (record w { coords = with_item w.coords (c.from.result - 1) c.coord_does.new.coord }) s c.args.coord (c.from.result - 1) c.index_mut.result.now c.coord_does.new.coord c.args.call c.in-Ok.did next r here refl refl c.in-Ok.ensures.same c.in-Ok.ensures.did).told

pub returns-in-Ok-clause-stands : goal.returns-in-Ok-clause-stands
returns-in-Ok-clause-stands g c = λ s r.
    let w = c.args.self.now in
    let place : c.from.result - 1 < length w.coords.items = omega arith in
    let next : suc (c.from.result - 1) ≡ c.args.coord = omega arith in
    let here = at_place w.coords.items (c.from.result - 1) c.index_mut.result.now place c.index_mut.ensures.value in
    (coord_did g.E.Engine.takes g.E.Engine.stands_for w (record w { coords = with_item w.coords (c.from.result - 1) c.coord_does.new.coord }) s c.args.coord (c.from.result - 1) c.index_mut.result.now c.coord_does.new.coord c.args.call c.in-Ok.did next r here refl refl c.in-Ok.ensures.same c.in-Ok.ensures.did).stands

pub returns-in-Ok-clause-served : goal.returns-in-Ok-clause-served
returns-in-Ok-clause-served g c =
    let w = c.args.self.now in
    let place : c.from.result - 1 < length w.coords.items = omega arith in
    let next : suc (c.from.result - 1) ≡ c.args.coord = omega arith in
    let here = at_place w.coords.items (c.from.result - 1) c.index_mut.result.now place c.index_mut.ensures.value in
    let s = c.requires.stands.0 in
    let are = are_numbered g.E.Engine.takes g.E.Engine.stands_for w s c.requires.stands.1 in
    let old = g.H.Home.seen c.args.home.now in
    let new = g.H.Home.seen c.coord_does.new.home in
    let served = c.in-Ok.ensures.served in
    record {
      kept = kept_by_coord w.members.items w.coords.items are old new c.requires.held (c.from.result - 1) c.index_mut.result.now c.coord_does.new.coord here c.in-Ok.ensures.same.number c.in-Ok.ensures.rest.others served.kept;
      clean = served.clean;
      quiet = served.quiet;
    }

pub returns-in-Err-clause-left : goal.returns-in-Err-clause-left
returns-in-Err-clause-left g c = λ s r.
    let w = c.args.self.now in
    let place : c.from.result - 1 < length w.coords.items = omega arith in
    let next : suc (c.from.result - 1) ≡ c.args.coord = omega arith in
    let here = at_place w.coords.items (c.from.result - 1) c.index_mut.result.now place c.index_mut.ensures.value in
    subst (AreLeftWith (g.H.Home.seen c.coord_does.new.home).file s (with_coord (disarmed s) c.args.coord (coord_does c.args.coord c.args.call (coord_disarmed (s.coord c.args.coord))).state)) (sym c.of_node.ensures)
    (coord_fault g.E.Engine.takes g.E.Engine.stands_for w s r (g.H.Home.seen c.args.home.now) (g.H.Home.seen c.coord_does.new.home) c.requires.held c.args.coord (c.from.result - 1) c.index_mut.result.now c.args.call next here c.in-Err.ensures.rest.others c.in-Err.fault c.in-Err.ensures.left)

pub returns-in-Ok-clause-rest : goal.returns-in-Ok-clause-rest
returns-in-Ok-clause-rest g c =
    let w = c.args.self.now in
    let place : c.from.result - 1 < length w.coords.items = omega arith in
    let here = at_place w.coords.items (c.from.result - 1) c.index_mut.result.now place c.index_mut.ensures.value in
    let number = (c.requires.stands.1.coord (c.from.result - 1) c.index_mut.result.now here).number in
    node_changes (length w.members.items) (length w.coords.items) (node.Coord c.index_mut.result.now.number) (g.H.Home.seen c.args.home.now) (g.H.Home.seen c.coord_does.new.home) (omega (arith, number), omega (arith, number, place)) c.in-Ok.ensures.rest

pub returns-in-Err-clause-rest : goal.returns-in-Err-clause-rest
returns-in-Err-clause-rest g c =
    let w = c.args.self.now in
    let place : c.from.result - 1 < length w.coords.items = omega arith in
    let here = at_place w.coords.items (c.from.result - 1) c.index_mut.result.now place c.index_mut.ensures.value in
    let number = (c.requires.stands.1.coord (c.from.result - 1) c.index_mut.result.now here).number in
    node_changes (length w.members.items) (length w.coords.items) (node.Coord c.index_mut.result.now.number) (g.H.Home.seen c.args.home.now) (g.H.Home.seen c.coord_does.new.home) (omega (arith, number), omega (arith, number, place)) c.in-Err.ensures.rest
