use Rattle.std.proofs.Common.{◌∙◌, ap, reverse}
use Rattle.co_message.proofs.Sent.{derived_same, inserted}
use Rattle.co_message.specs.Sent.{send_one}
use Rattle.co_message.proofs.wire.Wire.send.Goals as goal

pub returns-clause-ok : goal.returns-clause-ok
returns-clause-ok c =
    ap reverse c.in_ok-insert.ensures.keys
    ∙ inserted _ derived_same c.self.inside.sent.keys c.args.message
    ∙ ap (λ l. send_one l c.args.message) c.self.view_is
