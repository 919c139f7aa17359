use Rattle.std.proofs.Common.{◌∙◌, ap, sym, is_some, ◌||◌}
use Rattle.co_plain.specs.Numbers.{has_number}
use Rattle.co_session.specs.Clients.{is_used}
use Rattle.co_session.proofs.Tables.{looked}
use Rattle.co_session.proofs.Used.{found_used}
use Rattle.co_session.proofs.sessions.Sessions.is_used.Goals as goal

pub returns-then-contains_key : goal.returns-then-contains_key
returns-then-contains_key c =
    ap (λ b. b || has_number c.self.inside.used c.args.t)
    (c.if-contains_key.ensures ∙ ap is_some (sym (looked c.self.inside.begun.entries c.args.t)))
    ∙ ap (λ x. is_used x c.args.t) c.self.view_is

pub returns : goal.returns
returns c =
    c.is_ok.ensures.value
    ∙ found_used c.as_slice.result.now c.args.t c.binary_search.result c.as_slice.ensures.ascending c.binary_search.ensures.position
    ∙ ap (λ xs. has_number xs c.args.t) c.as_slice.ensures.value
    ∙ ap (λ b. b || has_number c.self.inside.used c.args.t)
    (c.if-contains_key.ensures ∙ ap is_some (sym (looked c.self.inside.begun.entries c.args.t)))
    ∙ ap (λ x. is_used x c.args.t) c.self.view_is
