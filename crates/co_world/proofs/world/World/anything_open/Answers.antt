use Rattle.co_world.proofs.world.World.anything_open.Goals as goal

pub anything_open-requires : goal.anything_open-requires
anything_open-requires g c = let h = c.requires.stands in record { stands = (h.0, h.1.cluster, h.2) }

pub returns-clause-something : goal.returns-clause-something
returns-clause-something g c = λ s r. c.anything_open.ensures.something s r.cluster

pub returns-clause-nothing : goal.returns-clause-nothing
returns-clause-nothing g c = λ s r. c.anything_open.ensures.nothing s r.cluster
