use Rattle.co_world.proofs.world.World.still_open.Goals as goal

pub still_open-requires : goal.still_open-requires
still_open-requires g c = let h = c.requires.stands in record { stands = (h.0, h.1.cluster, h.2) }

pub returns-clause-listed : goal.returns-clause-listed
returns-clause-listed g c = λ s r. c.still_open.ensures.listed s r.cluster
