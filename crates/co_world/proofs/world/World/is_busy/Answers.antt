use Rattle.co_world.proofs.world.World.is_busy.Goals as goal

pub is_busy-requires : goal.is_busy-requires
is_busy-requires g c = let h = c.requires.stands in record { stands = (h.0, h.1.cluster, h.2, h.3) }

pub returns : goal.returns
returns g c = λ s r. c.is_busy.ensures s r.cluster
