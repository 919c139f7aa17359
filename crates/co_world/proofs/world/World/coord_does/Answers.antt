use Rattle.co_state.proofs.Tables.{on_ok}
use Rattle.co_plain.specs.Federation.{with_coord}
use Rattle.co_cluster.specs.Calls.{coord_does}
use Rattle.co_cluster.specs.Standing.{RepresentsCluster}
use Rattle.co_world.specs.Standing.{RepresentsWorld}
use Rattle.co_world.proofs.Nodes.{coord_changed}
use Rattle.co_world.proofs.world.World.coord_does.Goals as goal

pub coord_does-requires-clause-held : goal.coord_does-requires-clause-held
coord_does-requires-clause-held g c = c.requires.held

pub coord_does-requires-clause-stands : goal.coord_does-requires-clause-stands
coord_does-requires-clause-stands g c = let h = c.requires.stands in (h.0, h.1.cluster, h.2)

pub returns-clause-told : goal.returns-clause-told
returns-clause-told g c = λ s r. c.coord_does.ensures.told s r.cluster

pub returns-clause-stands : goal.returns-clause-stands
returns-clause-stands g c = λ s r.
    let after = with_coord s c.args.coord (coord_does c.args.coord c.args.call (s.coord c.args.coord)).state in
    on_ok c.coord_does.result {A = RepresentsCluster g.E.Engine.takes g.E.Engine.stands_for c.coord_does.new.self after} {B = RepresentsWorld g.E.Engine.takes g.E.Engine.stands_for (record c.args.self.now { cluster = c.coord_does.new.self }) after}
    (coord_changed g.E.Engine.takes g.E.Engine.stands_for c.args.self.now c.coord_does.new.self s c.args.coord (coord_does c.args.coord c.args.call (s.coord c.args.coord)).state r) (c.coord_does.ensures.stands s r.cluster)

pub returns-clause-left : goal.returns-clause-left
returns-clause-left g c = λ s r. c.coord_does.ensures.left s r.cluster

pub returns-clause-served : goal.returns-clause-served
returns-clause-served g c = c.coord_does.ensures.served
