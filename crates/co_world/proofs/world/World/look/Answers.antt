use Rattle.co_world.proofs.world.World.look.Goals as goal

pub returns : goal.returns
returns g c = λ s r. c.look.ensures s r.cluster
