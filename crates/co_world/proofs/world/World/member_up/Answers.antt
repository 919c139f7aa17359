use Rattle.co_world.proofs.world.World.member_up.Goals as goal

pub returns : goal.returns
returns g c = λ s r. c.member_up.ensures s r.cluster
