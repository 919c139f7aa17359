use Rattle.std.proofs.Common.{◌∙◌, ap}
use Rattle.co_plain.specs.Sessions.{count_at}
use Rattle.co_base.specs.Parts.{count_among}
use Rattle.co_plain.proofs.Counts.{counts_told}
use Rattle.co_session.proofs.client.Client.carried.Goals as goal

pub returns : goal.returns
returns c =
    c.count_among.ensures
    ∙ ap (λ ps. count_among ps c.args.member) (c.as_slice.ensures.value ∙ c.self.invariant.1)
    ∙ counts_told _ c.args.member
    ∙ ap (λ session. count_at session.told c.args.member) c.self.view_is
