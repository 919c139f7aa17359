use Rattle.co_world.proofs.world.World.doubts.Goals as goal

pub doubts-requires : goal.doubts-requires
doubts-requires g c = let h = c.requires.stands in record { stands = (h.0, h.1.cluster) }

pub returns-clause-doubts : goal.returns-clause-doubts
returns-clause-doubts g c = λ s r. c.doubts.ensures.doubts s r.cluster
