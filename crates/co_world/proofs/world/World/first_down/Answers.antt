use Rattle.co_world.proofs.world.World.first_down.Goals as goal

pub first_down-requires : goal.first_down-requires
first_down-requires g c = let h = c.requires.stands in record { stands = (h.0, h.1.cluster) }

pub returns : goal.returns
returns g c = λ s r. c.first_down.ensures s r.cluster
