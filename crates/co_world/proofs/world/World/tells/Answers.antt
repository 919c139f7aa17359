use Rattle.co_world.proofs.Nodes.{noted_stands}
use Rattle.co_world.proofs.world.World.tells.Goals as goal

pub returns-clause-stands : goal.returns-clause-stands
returns-clause-stands g c = λ s r. noted_stands g.E.Engine.takes g.E.Engine.stands_for c.args.self.now c.send.new.self s c.args.marks.now c.args.messages.now r c.in_ok-send.ensures.rest c.in_ok-send.ensures.wire
