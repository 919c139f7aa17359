use Rattle.co_world.proofs.Nodes.{all_disarmed}
use Rattle.co_world.proofs.world.World.disarm.Goals as goal

pub returns-clause-stands : goal.returns-clause-stands
returns-clause-stands g c = λ s r. all_disarmed g.E.Engine.takes g.E.Engine.stands_for c.args.self.now c.disarm.new.self s r (c.disarm.ensures.stands s r.cluster)

pub returns-clause-held : goal.returns-clause-held
returns-clause-held g c = c.disarm.ensures.held
