use Rattle.co_world.proofs.world.World.waits.Goals as goal

pub waits-requires : goal.waits-requires
waits-requires g c = let h = c.requires.stands in record { stands = (h.0, h.1.cluster) }

pub returns-clause-waits : goal.returns-clause-waits
returns-clause-waits g c = λ s r. c.waits.ensures.waits s r.cluster
