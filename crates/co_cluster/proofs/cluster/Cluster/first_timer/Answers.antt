use Rattle.std.proofs.Common.{◌≡◌, ◌<◌, true, false, sym, ◌∙◌, subst}
use Rattle.std.proofs.lemmas.Bool.{false_from_ne_true}
use Rattle.co_plain.specs.Settling.{timer_ends}
use Rattle.co_cluster.proofs.Walks.{HasPassed, room, walk_starts, walk_goes_on, walk_rises, first_times, Timed, timed_opens}
use Rattle.co_cluster.proofs.cluster.Cluster.first_timer.Goals as goal

pub loop-next-init : goal.loop-next-init
loop-next-init g c = λ s r. walk_starts s (Timed s) (timed_opens s) c.open_after-next.result (c.open_after-next.ensures s r)

pub returns-in-Some-timed_at : goal.returns-in-Some-timed_at
returns-in-Some-timed_at g c = λ s r.
    let passed = subst (HasPassed s (Timed s) (timed_opens s)) c.in-Some.is (c.loop-next.invariant s r) in
    first_times s c.in-Some.t c.in-Some-timed_at.node passed (c.in-Some-timed_at.ensures s r)

pub loop-next-smaller : goal.loop-next-smaller
loop-next-smaller g c =
    let s = c.requires.stands.0 in
    subst (λ o. room c.open_above-next.result < room o) (sym c.in-Some.is) (walk_rises s c.in-Some.t c.open_above-next.result (c.open_above-next.ensures.next s c.requires.stands.1) c.open_above-next.ensures.number)

pub loop-next-preserved : goal.loop-next-preserved
loop-next-preserved g c = λ s r.
    let t = c.in-Some.t in
    let passed = subst (HasPassed s (Timed s) (timed_opens s)) c.in-Some.is (c.loop-next.invariant s r) in
    walk_goes_on s (Timed s) (timed_opens s) t c.open_above-next.result (c.open_above-next.ensures.next s r) passed
    (λ h. let z : true ≡ false = sym h.2 ∙ c.in_default-timed_at.ensures s r h.0 h.1 in cc)

pub returns : goal.returns
returns g c = λ s r t at own.
    let passed = subst (HasPassed s (Timed s) (timed_opens s)) c.in_default.is (c.loop-next.invariant s r) in
    false_from_ne_true (timer_ends s t at) (λ h. passed t tt (at, own, h))
