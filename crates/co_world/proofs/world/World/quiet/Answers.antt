use Rattle.co_world.proofs.world.World.quiet.Goals as goal

pub quiet-requires : goal.quiet-requires
quiet-requires g c = let h = c.requires.stands in record { stands = (h.0, h.1.cluster, h.2) }

pub returns : goal.returns
returns g c = λ s r. c.quiet.ensures s r.cluster
