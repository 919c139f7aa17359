use Rattle.std.proofs.Common.{◌∙◌, ap, map, reverse}
use Rattle.co_plain.specs.declared.session.Told.{Told}
use Rattle.co_session.proofs.Joined.{operations_of}
use Rattle.co_session.proofs.client.Client.operations.Goals as goal

pub returns : goal.returns
returns c =
    c.as_slice.ensures.value
    ∙ operations_of c.self.inside.sites.items c.self.inside.replies c.self.invariant.0
    ∙ ap (λ session. map (λ (o : Told). o.site) (reverse session.told)) c.self.view_is
