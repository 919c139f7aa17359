use Rattle.std.proofs.Common.{◌∙◌, ap}
use Rattle.co_session.specs.Clients.{carried_of}
use Rattle.co_state.specs.Table.{look}
use Rattle.co_world.proofs.world.World.carried.Goals as goal

pub returns : goal.returns
returns g c = λ s r. c.carried.ensures ∙ ap (λ table. carried_of (look table c.args.t) c.args.member) r.sessions
