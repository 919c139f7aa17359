use Rattle.co_world.proofs.world.World.up.Goals as goal

pub returns : goal.returns
returns g c = λ s r. c.up.ensures s r.cluster
