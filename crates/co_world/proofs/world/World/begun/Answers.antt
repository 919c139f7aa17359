use Rattle.std.proofs.Common.{◌∙◌}
use Rattle.co_world.proofs.world.World.begun.Goals as goal

pub returns : goal.returns
returns g c = λ s r. c.count.ensures ∙ r.counted.begun
