use Rattle.std.proofs.Common.{◌≡◌, ℕ}
use Rattle.co_plain.specs.Federation.{Federation}
use Rattle.co_plain.specs.Quiet.{IsEnabled}
use Rattle.co_plain.specs.Quiet as plain
use Rattle.co_plain.specs.Settling.{exchange_txn}
use Rattle.co_cluster.specs.Readings.{exchange_of, IsFirstOf}
use Rattle.co_cluster.specs.declared.exchanges.Exchange.{Exchange}
use Rattle.co_cluster.specs.declared.exchanges.ExchangeKind.TheVariants as kind
use Rattle.co_cluster.proofs.Exchanging.{NoneOf, FirstOf, none_at_all, by_prepare, by_vote, by_commit, by_ask, nothing_found, something_found, found_or_not}
use Rattle.co_cluster.proofs.cluster.Cluster.exchange_with.Goals as goal

abbrev Nothing : Federation → ℕ → Type 0
Nothing s t = (e : plain.Exchange) → exchange_txn e ≡ t → IsEnabled s e → ⊥

abbrev First : Federation → ℕ → Exchange → Type 0
First s t e = (e.txn ≡ t) × IsFirstOf s t (exchange_of e)

pub returns-then-is_some : goal.returns-then-is_some
returns-then-is_some g c = λ s r ready.
    let t = c.args.t in
    something_found (NoneOf s t kind.Prepare) (Nothing s t) (FirstOf s t kind.Prepare) (First s t) c.exchange_of-prepare.result c.is_some.result c.is_some.ensures c.if-is_some.true (by_prepare s t) (c.exchange_of-prepare.ensures s r ready)

pub returns-then-is_some-2 : goal.returns-then-is_some-2
returns-then-is_some-2 g c = λ s r ready.
    let t = c.args.t in
    let p = nothing_found (NoneOf s t kind.Prepare) (FirstOf s t kind.Prepare) c.exchange_of-prepare.result c.is_some.result c.is_some.ensures c.if-is_some.false (c.exchange_of-prepare.ensures s r ready) in
    something_found (NoneOf s t kind.Vote) (Nothing s t) (FirstOf s t kind.Vote) (First s t) c.exchange_of-vote.result c.is_some-2.result c.is_some-2.ensures c.if-is_some-2.true (by_vote s t p) (c.exchange_of-vote.ensures s r ready)

pub returns-then-is_some-3 : goal.returns-then-is_some-3
returns-then-is_some-3 g c = λ s r ready.
    let t = c.args.t in
    let p = nothing_found (NoneOf s t kind.Prepare) (FirstOf s t kind.Prepare) c.exchange_of-prepare.result c.is_some.result c.is_some.ensures c.if-is_some.false (c.exchange_of-prepare.ensures s r ready) in
    let v = nothing_found (NoneOf s t kind.Vote) (FirstOf s t kind.Vote) c.exchange_of-vote.result c.is_some-2.result c.is_some-2.ensures c.if-is_some-2.false (c.exchange_of-vote.ensures s r ready) in
    something_found (NoneOf s t kind.Commit) (Nothing s t) (FirstOf s t kind.Commit) (First s t) c.exchange_of-commit.result c.is_some-3.result c.is_some-3.ensures c.if-is_some-3.true (by_commit s t p v) (c.exchange_of-commit.ensures s r ready)

pub returns : goal.returns
returns g c = λ s r ready.
    let t = c.args.t in
    let p = nothing_found (NoneOf s t kind.Prepare) (FirstOf s t kind.Prepare) c.exchange_of-prepare.result c.is_some.result c.is_some.ensures c.if-is_some.false (c.exchange_of-prepare.ensures s r ready) in
    let v = nothing_found (NoneOf s t kind.Vote) (FirstOf s t kind.Vote) c.exchange_of-vote.result c.is_some-2.result c.is_some-2.ensures c.if-is_some-2.false (c.exchange_of-vote.ensures s r ready) in
    let m = nothing_found (NoneOf s t kind.Commit) (FirstOf s t kind.Commit) c.exchange_of-commit.result c.is_some-3.result c.is_some-3.ensures c.if-is_some-3.false (c.exchange_of-commit.ensures s r ready) in
    found_or_not (NoneOf s t kind.Ask) (Nothing s t) (FirstOf s t kind.Ask) (First s t) c.exchange_of.result (λ a. none_at_all s t p v m a) (by_ask s t p v m) (c.exchange_of.ensures s r ready)
