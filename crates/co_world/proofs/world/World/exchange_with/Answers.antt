use Rattle.co_world.proofs.world.World.exchange_with.Goals as goal

pub exchange_with-requires : goal.exchange_with-requires
exchange_with-requires g c = let h = c.requires.stands in record { stands = (h.0, h.1.cluster, h.2, h.3) }

pub returns : goal.returns
returns g c = λ s r. c.exchange_with.ensures s r.cluster
