use Rattle.std.proofs.Common.{◌∙◌, ap, sym, Some}
use Rattle.co_state.specs.Table.{look}
use Rattle.co_session.proofs.Tables.{looked}
use Rattle.co_session.specs.Clients.{decider_of}
use Rattle.co_session.proofs.sessions.Sessions.decider.Goals as goal

pub returns-in-None : goal.returns-in-None
returns-in-None c =
    ap decider_of (c.in-None.ensures.value ∙ sym (looked c.self.inside.begun.entries c.args.t) ∙ ap (λ x. look x.sessions c.args.t) c.self.view_is)

pub returns-in-Some : goal.returns-in-Some
returns-in-Some c =
    ap Some c.by.ensures ∙ ap decider_of (c.in-Some.ensures.value ∙ sym (looked c.self.inside.begun.entries c.args.t) ∙ ap (λ x. look x.sessions c.args.t) c.self.view_is)
