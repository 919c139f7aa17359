use Rattle.std.proofs.Common.{◌∙◌, ◌+◌, ap, sym, length, nat_le}
use Rattle.std.proofs.lemmas.List.{length-map}
use Rattle.std.specs.Map.{keys_of}
use Rattle.co_session.specs.Clients.{is_full}
use Rattle.co_session.proofs.sessions.Sessions.is_full.Goals as goal

pub returns : goal.returns
returns c =
    ap (λ n. nat_le 65536 (n + length c.as_slice-used.result.now)) (c.len.ensures.len ∙ sym (length-map c.self.inside.begun.entries (λ e. e.0)))
    ∙ ap (λ xs. nat_le 65536 (length (keys_of c.self.inside.begun.entries) + length xs)) c.as_slice-used.ensures.value
    ∙ ap is_full c.self.view_is
