use Rattle.std.proofs.Common.{◌≡◌, sym, subst}
use Rattle.std.specs.Prelude.{MatchOption, ℕ}
use Rattle.co_plain.specs.Quiet.{IsEnabled}
use Rattle.co_cluster.specs.Readings.{exchange_as}
use Rattle.co_cluster.specs.declared.exchanges.ExchangeKind.TheVariants as kind
use Rattle.co_cluster.proofs.Exchanging.{enabled_with}
use Rattle.co_cluster.proofs.Readers.{is_member}
use Rattle.co_cluster.proofs.cluster.Cluster.helper.Goals as goal

pub returns-in-Prepare : goal.returns-in-Prepare
returns-in-Prepare g c = λ s r ready.
    subst (λ k. MatchOption c.coord_for.result ((d : ℕ) → IsEnabled s (exchange_as k c.args.t c.args.member d) → ⊥) (λ d. IsEnabled s (exchange_as k c.args.t c.args.member d))) (sym c.in-Prepare.is)
    (enabled_with s c.args.t c.args.member (is_member g.E.Engine.takes g.E.Engine.stands_for c.args.self.now s r c.args.member c.requires.member.0 c.requires.member.1) kind.Prepare (λ e. let z : kind.Prepare ≡ kind.Vote = e in cc) c.coord_for.result (c.coord_for.ensures s r ready))
