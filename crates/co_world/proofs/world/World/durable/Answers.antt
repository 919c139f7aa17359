use Rattle.co_world.proofs.world.World.durable.Goals as goal

pub durable-requires : goal.durable-requires
durable-requires g c = let h = c.requires.stands in record { stands = (h.0, h.1.cluster, h.2) }

pub returns : goal.returns
returns g c = λ s r. c.durable.ensures s r.cluster
