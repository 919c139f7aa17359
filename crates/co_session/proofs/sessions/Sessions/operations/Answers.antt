use Rattle.std.proofs.Common.{◌∙◌, ap, sym, map, reverse}
use Rattle.co_plain.specs.declared.session.Told.{Told}
use Rattle.co_state.specs.Table.{look}
use Rattle.co_session.proofs.Tables.{looked}
use Rattle.co_session.specs.Clients.{told_of}
use Rattle.co_session.proofs.sessions.Sessions.operations.Goals as goal

pub returns-in-None : goal.returns-in-None
returns-in-None c =
    ap (λ o. map (λ (x : Told). x.site) (reverse (told_of o)))
    (c.in-None.ensures.value ∙ sym (looked c.self.inside.begun.entries c.args.t) ∙ ap (λ x. look x.sessions c.args.t) c.self.view_is)

pub returns-in-Some : goal.returns-in-Some
returns-in-Some c =
    c.operations.ensures
    ∙ ap (λ o. map (λ (x : Told). x.site) (reverse (told_of o)))
    (c.in-Some.ensures.value ∙ sym (looked c.self.inside.begun.entries c.args.t) ∙ ap (λ x. look x.sessions c.args.t) c.self.view_is)
