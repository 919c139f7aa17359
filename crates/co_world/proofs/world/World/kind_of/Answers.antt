use Rattle.co_world.proofs.world.World.kind_of.Goals as goal

pub returns : goal.returns
returns g c = λ s r. c.kind_of.ensures s r.cluster
