use Rattle.co_world.proofs.Nodes.{nodes_stand}
use Rattle.co_world.proofs.world.World.unpin.Goals as goal

pub returns-clause-stands : goal.returns-clause-stands
returns-clause-stands g c = λ s r. nodes_stand g.E.Engine.takes g.E.Engine.stands_for c.args.self.now c.unpin.new.self s r (c.unpin.ensures.stands s r.cluster)
