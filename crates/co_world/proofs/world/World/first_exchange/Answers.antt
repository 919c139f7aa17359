use Rattle.co_world.proofs.world.World.first_exchange.Goals as goal

pub first_exchange-requires : goal.first_exchange-requires
first_exchange-requires g c = let h = c.requires.stands in record { stands = (h.0, h.1.cluster, h.2, h.3) }

pub returns : goal.returns
returns g c = λ s r. c.first_exchange.ensures s r.cluster
