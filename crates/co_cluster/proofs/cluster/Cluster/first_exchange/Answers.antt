use Rattle.std.proofs.Common.{◌≡◌, ◌<◌, sym, subst, refl}
use Rattle.co_plain.specs.Quiet.{IsEnabled}
use Rattle.co_plain.specs.Quiet as plain
use Rattle.co_plain.specs.Settling.{exchange_txn, IsFirstExchange}
use Rattle.co_cluster.specs.Readings.{exchange_of, IsFirstOf}
use Rattle.co_cluster.proofs.Exchanging.{nothing_found, something_found}
use Rattle.co_cluster.proofs.Walks.{HasPassed, room, walk_starts, walk_goes_on, walk_rises, first_helps, Helped, helped_open}
use Rattle.co_cluster.proofs.cluster.Cluster.first_exchange.Goals as goal

pub loop-next-init : goal.loop-next-init
loop-next-init g c = λ s r ready. walk_starts s (Helped s) (helped_open s) c.open_after-next.result (c.open_after-next.ensures s r)

pub returns-then-is_some : goal.returns-then-is_some
returns-then-is_some g c = λ s r ready.
    let t = c.in-Some.t in
    let passed = subst (HasPassed s (Helped s) (helped_open s)) c.in-Some.is (c.loop-next.invariant s r ready) in
    something_found ((e : plain.Exchange) → exchange_txn e ≡ t → IsEnabled s e → ⊥) ((e : plain.Exchange) → IsEnabled s e → ⊥) (λ e. (e.txn ≡ t) × IsFirstOf s t (exchange_of e)) (λ e. IsFirstExchange s (exchange_of e))
    c.exchange_with-found.result c.is_some.result c.is_some.ensures c.if-is_some.true (λ e h. first_helps s t (exchange_of e) passed h.1) (c.exchange_with-found.ensures s r ready)

pub loop-next-smaller : goal.loop-next-smaller
loop-next-smaller g c =
    let s = c.requires.stands.0 in
    subst (λ o. room c.open_above-next.result < room o) (sym c.in-Some.is) (walk_rises s c.in-Some.t c.open_above-next.result (c.open_above-next.ensures.next s c.requires.stands.1) c.open_above-next.ensures.number)

pub loop-next-preserved : goal.loop-next-preserved
loop-next-preserved g c = λ s r ready.
    let t = c.in-Some.t in
    let passed = subst (HasPassed s (Helped s) (helped_open s)) c.in-Some.is (c.loop-next.invariant s r ready) in
    let none = nothing_found ((e : plain.Exchange) → exchange_txn e ≡ t → IsEnabled s e → ⊥) (λ e. (e.txn ≡ t) × IsFirstOf s t (exchange_of e)) c.exchange_with-found.result c.is_some.result c.is_some.ensures c.if-is_some.false (c.exchange_with-found.ensures s r ready) in
    walk_goes_on s (Helped s) (helped_open s) t c.open_above-next.result (c.open_above-next.ensures.next s r) passed (λ h. none h.0 h.1 h.2)

pub returns : goal.returns
returns g c = λ s r ready e h.
    let passed = subst (HasPassed s (Helped s) (helped_open s)) c.in_default.is (c.loop-next.invariant s r ready) in
    passed (exchange_txn e) tt (e, refl, h)
