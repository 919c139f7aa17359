use Rattle.co_world.proofs.world.World.knows.Goals as goal

pub knows-requires-clause-up : goal.knows-requires-clause-up
knows-requires-clause-up g c = let h = c.requires.up in (h.0, h.1.cluster, h.2)

pub returns : goal.returns
returns g c = λ s r. c.knows.ensures s r.cluster
