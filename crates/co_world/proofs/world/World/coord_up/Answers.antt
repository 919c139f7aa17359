use Rattle.co_world.proofs.world.World.coord_up.Goals as goal

pub returns : goal.returns
returns g c = λ s r. c.coord_up.ensures s r.cluster
