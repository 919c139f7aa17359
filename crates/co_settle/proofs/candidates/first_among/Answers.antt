use Rattle.std.proofs.Common.{◌≡◌, ◌<◌, ℕ, Option, Some, sym, subst}
use Rattle.co_plain.specs.Quiet.{IsEnabled}
use Rattle.co_plain.specs.Quiet as plain
use Rattle.co_plain.specs.Settling.{exchange_txn, IsFirstExchange}
use Rattle.co_state.specs.Table.{holds}
use Rattle.co_cluster.specs.Readings.{exchange_of, IsFirstOf}
use Rattle.co_cluster.proofs.Exchanging.{nothing_found, something_found}
use Rattle.co_cluster.proofs.NotedSets.{IsNext, noting_rises, tabled_next}
use Rattle.co_cluster.proofs.Walks.{room}
use Rattle.co_settle.proofs.Seeking.{AreAhead, ahead_starts, ahead_goes_on, first_ahead}
use Rattle.co_settle.proofs.candidates.first_among.Goals as goal

pub loop-next-init : goal.loop-next-init
loop-next-init g c = λ s r ready have. (have, ahead_starts s c.args.numbers.now c.first_above-next.result c.first_above-next.ensures have)

pub returns-then-is_some-clause-first : goal.returns-then-is_some-clause-first
returns-then-is_some-clause-first g c = λ s r ready have.
    let t = c.in-Some.t in
    let ahead = subst (AreAhead s) c.in-Some.is (c.loop-next.invariant s r ready have).1 in
    something_found ((e : plain.Exchange) → exchange_txn e ≡ t → IsEnabled s e → ⊥) ((e : plain.Exchange) → IsEnabled s e → ⊥) (λ e. (e.txn ≡ t) × IsFirstOf s t (exchange_of e)) (λ e. IsFirstExchange s (exchange_of e))
    c.exchange_with-found.result c.is_some.result c.is_some.ensures c.if-is_some.true (λ e h. first_ahead s t (exchange_of e) ahead h.1) (c.exchange_with-found.ensures s r ready)

pub returns-then-is_some-clause-busy : goal.returns-then-is_some-clause-busy
returns-then-is_some-clause-busy g c = λ s r ready have. (c.loop-next.invariant s r ready have).0

pub loop-next-smaller : goal.loop-next-smaller
loop-next-smaller g c =
    let t = c.in-Some.t in
    let kept = c.let_go.new.numbers in
    subst (λ (o : Option ℕ). room c.next_above-next.result < room o) (sym c.in-Some.is)
    (noting_rises (holds kept) t c.next_above-next.result (subst (IsNext (holds kept) (Some t)) (sym c.next_above-next.ensures.next) (tabled_next kept (Some t))) c.next_above-next.ensures.number)

pub loop-next-preserved : goal.loop-next-preserved
loop-next-preserved g c = λ s r ready have.
    let t = c.in-Some.t in
    let i = c.loop-next.invariant s r ready have in
    let kept = c.let_go.ensures s r i.0 in
    let none = nothing_found ((e : plain.Exchange) → exchange_txn e ≡ t → IsEnabled s e → ⊥) (λ e. (e.txn ≡ t) × IsFirstOf s t (exchange_of e)) c.exchange_with-found.result c.is_some.result c.is_some.ensures c.if-is_some.false (c.exchange_with-found.ensures s r ready) in
    (kept, ahead_goes_on s c.let_go.new.numbers t c.next_above-next.result c.next_above-next.ensures.next kept (subst (AreAhead s) c.in-Some.is i.1) none)

pub returns-clause-busy : goal.returns-clause-busy
returns-clause-busy g c = λ s r ready have. (c.loop-next.invariant s r ready have).0
