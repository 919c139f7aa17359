use Rattle.co_world.proofs.world.World.first_timer.Goals as goal

pub first_timer-requires : goal.first_timer-requires
first_timer-requires g c = let h = c.requires.stands in record { stands = (h.0, h.1.cluster, h.2, h.3) }

pub returns : goal.returns
returns g c = λ s r. c.first_timer.ensures s r.cluster
