use Rattle.std.proofs.Common.{◌≡◌, ◌∙◌, ap, arith, reverse}
use Rattle.co_plain.specs.Sessions.{count_at}
use Rattle.co_base.specs.Parts.{count_among}
use Rattle.co_plain.proofs.Counts.{counts_told}
use Rattle.co_session.specs.Clients.{joined}
use Rattle.co_session.proofs.client.Client.tell.Goals as goal

pub count_one-requires : goal.count_one-requires
count_one-requires c =
    let m = c.args.site.member in
    let same : count_among c.self.inside.counts.items m ≡ count_at c.args.self.now.told m =
    ap (λ ps. count_among ps m) c.self.invariant.1
    ∙ counts_told (joined (reverse c.self.inside.sites.items) c.self.inside.replies) m
    ∙ ap (λ session. count_at session.told m) c.self.view_is in
    omega (arith, same, c.requires)
