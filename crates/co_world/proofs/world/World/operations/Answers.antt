use Rattle.std.proofs.Common.{◌∙◌, ap, map, reverse}
use Rattle.co_plain.specs.declared.session.Told.{Told}
use Rattle.co_session.specs.Clients.{told_of}
use Rattle.co_state.specs.Table.{look}
use Rattle.co_world.proofs.world.World.operations.Goals as goal

pub returns : goal.returns
returns g c = λ s r. c.operations.ensures ∙ ap (λ table. map (λ (o : Told). o.site) (reverse (told_of (look table c.args.t)))) r.sessions
