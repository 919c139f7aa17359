use Rattle.co_state.proofs.Tables.{on_ok}
use Rattle.co_plain.specs.Federation.{with_member}
use Rattle.co_cluster.specs.Calls.{member_does}
use Rattle.co_cluster.specs.Standing.{RepresentsCluster}
use Rattle.co_world.specs.Standing.{RepresentsWorld}
use Rattle.co_world.proofs.Nodes.{member_changed}
use Rattle.co_world.proofs.world.World.member_does.Goals as goal

pub member_does-requires-clause-held : goal.member_does-requires-clause-held
member_does-requires-clause-held g c = c.requires.held

pub member_does-requires-clause-stands : goal.member_does-requires-clause-stands
member_does-requires-clause-stands g c = let h = c.requires.stands in (h.0, h.1.cluster, h.2)

pub returns-clause-told : goal.returns-clause-told
returns-clause-told g c = λ s r. c.member_does.ensures.told s r.cluster

pub returns-clause-stands : goal.returns-clause-stands
returns-clause-stands g c = λ s r.
    let after = with_member s c.args.member (member_does c.args.member c.args.call (s.member c.args.member)).state in
    on_ok c.member_does.result {A = RepresentsCluster g.E.Engine.takes g.E.Engine.stands_for c.member_does.new.self after} {B = RepresentsWorld g.E.Engine.takes g.E.Engine.stands_for (record c.args.self.now { cluster = c.member_does.new.self }) after}
    (member_changed g.E.Engine.takes g.E.Engine.stands_for c.args.self.now c.member_does.new.self s c.args.member (member_does c.args.member c.args.call (s.member c.args.member)).state r) (c.member_does.ensures.stands s r.cluster)

pub returns-clause-left : goal.returns-clause-left
returns-clause-left g c = λ s r. c.member_does.ensures.left s r.cluster

pub returns-clause-served : goal.returns-clause-served
returns-clause-served g c = c.member_does.ensures.served
