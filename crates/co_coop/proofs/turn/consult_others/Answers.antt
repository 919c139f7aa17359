use Rattle.std.proofs.Common.{◌≡◌, ◌≢◌, ◌+◌, ◌≤◌, suc, true, false, length, sym, ap, ◌∙◌, subst, arith}
use Rattle.co_opening.proofs.Rests.{changes_on}
use Rattle.co_opening.specs.Rest.{OnlyOwnFilesChange}
use Rattle.co_plain.specs.Runs.{run}
use Rattle.co_world.specs.Standing.{AreHeld, AreServed, RepresentsWorld}
use Rattle.co_settle.proofs.Composing.{served_later}
use Rattle.co_law_coop.specs.Consulting.{transcript_along}
use Rattle.co_coop.specs.Consulted.{MayConsult, IsCutAlong, told_of_doubt, consultation_of}
use Rattle.co_coop.specs.Turn.{is_verdict, others_to}
use Rattle.co_coop.proofs.Aborting.{fails_leaving, leaves_later, rest_as}
use Rattle.co_coop.proofs.Turning.{AreSilent, silent_more, silent_nothing, others_asker, others_next, may_consult, turn_is, turn_cut, turn_none, asks_fail}
use Rattle.co_coop.proofs.turn.consult_others.Goals as goal
use Rattle.co_coop.proofs.turn.consult_others.Goals.{then-other-doubt+in_ok-consulted+else-is_verdict, else-other-doubt}

pub consult-requires-clause-asks : goal.consult-requires-clause-asks
consult-requires-clause-asks g c =
    let w = c.requires.asks in
    let n = c.loop-place.place in
    let next : suc n ≡ n + 1 = omega arith in
    let below = c.loop-place-test.true in
    let all = w.4 in
    let high : suc n ≤ length w.0.kinds = omega (arith, below, all) in
    let apart : suc n ≢ c.args.doubt.now.member = λ e. c.if-other-doubt.true (sym next ∙ e) in
    (w.0, (c.loop-place.invariant.silent w.0 w.1 w.2 w.3).0, w.2, subst (MayConsult w.0 c.args.doubt.now) next (may_consult w.0 c.args.doubt.now n w.3 high apart))

pub returns-in_err-consulted-clause-did : goal.returns-in_err-consulted-clause-did
returns-in_err-consulted-clause-did g c = λ s r reached may.
    let w = c.requires.asks in
    let d = c.args.doubt.now in
    let n = c.loop-place.place in
    let next : suc n ≡ n + 1 = omega arith in
    let below = c.loop-place-test.true in
    let all = w.4 ∙ sym w.1.cluster.kinds ∙ r.cluster.kinds in
    let high : suc n ≤ length s.kinds = omega (arith, below, all) in
    let apart : suc n ≢ d.member = λ e. c.if-other-doubt.true (sym next ∙ e) in
    let quiet = c.loop-place.invariant.silent s r reached may in
    let file = (g.H.Home.seen c.consult.new.home).file in
    let fault = c.in_err-consulted.field-0.0 in
    asks_fail g.E.Engine.takes g.E.Engine.stands_for s c.args.number d c.consult.new.world file c.from_residual.result fault c.from_residual.ensures
    (turn_cut s d n high apart quiet.1 file fault
    (subst (λ o. IsCutAlong (consultation_of s d o) s file fault) (sym next) (c.in_err-consulted.ensures.did s quiet.0 reached (subst (MayConsult s d) next (may_consult s d n may high apart)))))

pub returns-in_err-consulted-clause-fault : goal.returns-in_err-consulted-clause-fault
returns-in_err-consulted-clause-fault g c =
    let w = c.requires.asks in
    let old = g.H.Home.seen c.args.home.now in
    let mid = g.H.Home.seen c.loop-place.home in
    let new = g.H.Home.seen c.consult.new.home in
    fails_leaving old new c.from_residual.result c.in_err-consulted.field-0.0 c.from_residual.ensures
    (leaves_later c.in_err-consulted.field-0.0 old mid new (c.loop-place.invariant.rest w.0 w.1).files.told c.loop-place.invariant.served.clean c.in_err-consulted.ensures.fault)

pub returns-in_err-consulted-clause-rest : goal.returns-in_err-consulted-clause-rest
returns-in_err-consulted-clause-rest g c = λ s r.
    let w = c.requires.asks in
    let old = g.H.Home.seen c.args.home.now in
    let mid = g.H.Home.seen c.loop-place.home in
    let new = g.H.Home.seen c.consult.new.home in
    rest_as g.E.Engine.takes g.E.Engine.stands_for c.args.world.now w.0 s old new w.1 r
    (changes_on (length w.0.kinds) w.0.coordinators old mid new (c.loop-place.invariant.rest w.0 w.1) (c.in_err-consulted.ensures.rest w.0 (c.loop-place.invariant.silent w.0 w.1 w.2 w.3).0))

pub returns-then-is_verdict-clause-did : goal.returns-then-is_verdict-clause-did
returns-then-is_verdict-clause-did g c = λ s r reached may.
    let w = c.requires.asks in
    let d = c.args.doubt.now in
    let n = c.loop-place.place in
    let next : suc n ≡ n + 1 = omega arith in
    let below = c.loop-place-test.true in
    let all = w.4 ∙ sym w.1.cluster.kinds ∙ r.cluster.kinds in
    let high : suc n ≤ length s.kinds = omega (arith, below, all) in
    let apart : suc n ≢ d.member = λ e. c.if-other-doubt.true (sym next ∙ e) in
    let quiet = c.loop-place.invariant.silent s r reached may in
    let did = c.in_ok-consulted.ensures.did s quiet.0 reached (subst (MayConsult s d) next (may_consult s d n may high apart)) in
    let verdict = ap (λ o. is_verdict (told_of_doubt s d o)) next ∙ ap is_verdict (sym did.told_is) ∙ sym c.if-is_verdict.ensures in
    let turn = ap (consultation_of s d) (sym next) ∙ sym (turn_is s d n high apart quiet.1 verdict) in (
      did.items_are ∙ ap (λ hs. transcript_along (suc c.args.number) hs s) turn,
      subst (λ hs. RepresentsWorld g.E.Engine.takes g.E.Engine.stands_for c.consult.new.world (run hs s)) turn did.stands,
    )

pub returns-then-is_verdict-clause-ended : goal.returns-then-is_verdict-clause-ended
returns-then-is_verdict-clause-ended g c =
    served_later c.loop-place.world c.consult.new.world (g.H.Home.seen c.args.home.now) (g.H.Home.seen c.loop-place.home) (g.H.Home.seen c.consult.new.home) c.loop-place.invariant.served c.in_ok-consulted.ensures.ended

pub returns-then-is_verdict-clause-rest : goal.returns-then-is_verdict-clause-rest
returns-then-is_verdict-clause-rest g c = λ s r.
    let w = c.requires.asks in
    let old = g.H.Home.seen c.args.home.now in
    let mid = g.H.Home.seen c.loop-place.home in
    let new = g.H.Home.seen c.consult.new.home in
    rest_as g.E.Engine.takes g.E.Engine.stands_for c.args.world.now w.0 s old new w.1 r
    (changes_on (length w.0.kinds) w.0.coordinators old mid new (c.loop-place.invariant.rest w.0 w.1) (c.in_ok-consulted.ensures.rest w.0 (c.loop-place.invariant.silent w.0 w.1 w.2 w.3).0))

pub loop-place-preserved : goal.loop-place-preserved
loop-place-preserved g c =
    let q = c.requires.asks in
    let d = c.args.doubt.now in
    let n = c.loop-place.place in
    let next : suc n ≡ n + 1 = omega arith in
    let below = c.loop-place-test.true in
    let old = g.H.Home.seen c.args.home.now in
    let mid = g.H.Home.seen c.loop-place.home in
    elim c.if-other-doubt.branch [
      | then-other-doubt+in_ok-consulted+else-is_verdict w ↦
          let new = g.H.Home.seen w.consult.new.home in
          let served = served_later c.loop-place.world w.consult.new.world old mid new c.loop-place.invariant.served w.in_ok-consulted.ensures.ended in
          record {
            silent = λ s r reached may.
                let all = q.4 ∙ sym q.1.cluster.kinds ∙ r.cluster.kinds in
                let high : suc n ≤ length s.kinds = omega (arith, below, all) in
                let apart : suc n ≢ d.member = λ e. w.if-other-doubt.true (sym next ∙ e) in
                let quiet = c.loop-place.invariant.silent s r reached may in
                let did = w.in_ok-consulted.ensures.did s quiet.0 reached (subst (MayConsult s d) next (may_consult s d n may high apart)) in
                let none : is_verdict (told_of_doubt s d (n + 1)) ≡ false = ap is_verdict (sym did.told_is) ∙ sym w.if-is_verdict.ensures in (
                  subst (λ x. RepresentsWorld g.E.Engine.takes g.E.Engine.stands_for x s) (sym w.world-is)
                      (subst (λ hs. RepresentsWorld g.E.Engine.takes g.E.Engine.stands_for w.consult.new.world (run hs s)) (silent_nothing s d (n + 1) none) did.stands),
                  subst (λ k. AreSilent s d (others_to k d.member)) next
                      (subst (AreSilent s d) (sym (others_next n d.member apart)) (silent_more s d (others_to n d.member) (suc n) quiet.1 (ap (λ o. is_verdict (told_of_doubt s d o)) next ∙ none))),
                );
            served = subst (λ x. AreServed x old (g.H.Home.seen c.if-other-doubt.home)) (sym w.world-is) (subst (λ h. AreServed w.consult.new.world old (g.H.Home.seen h)) (sym w.home-is) served);
            held = subst (λ x. AreHeld (g.H.Home.seen c.if-other-doubt.home) x) (sym w.world-is) (subst (λ h. AreHeld (g.H.Home.seen h) w.consult.new.world) (sym w.home-is) served.kept);
            rest = λ s r.
                subst (λ h. OnlyOwnFilesChange (length s.kinds) s.coordinators old (g.H.Home.seen h)) (sym w.home-is)
                (rest_as g.E.Engine.takes g.E.Engine.stands_for c.args.world.now q.0 s old new q.1 r
                (changes_on (length q.0.kinds) q.0.coordinators old mid new (c.loop-place.invariant.rest q.0 q.1) (w.in_ok-consulted.ensures.rest q.0 (c.loop-place.invariant.silent q.0 q.1 q.2 q.3).0)));
          }
      | else-other-doubt w ↦
          record {
            silent = λ s r reached may.
                let quiet = c.loop-place.invariant.silent s r reached may in (
                  subst (λ x. RepresentsWorld g.E.Engine.takes g.E.Engine.stands_for x s) (sym w.world-is) quiet.0,
                  subst (λ k. AreSilent s d (others_to k d.member)) next (subst (AreSilent s d) (sym (others_asker n d.member (next ∙ w.if-other-doubt.false))) quiet.1),
                );
            served = subst (λ x. AreServed x old (g.H.Home.seen c.if-other-doubt.home)) (sym w.world-is) (subst (λ h. AreServed c.loop-place.world old (g.H.Home.seen h)) (sym w.home-is) c.loop-place.invariant.served);
            held = subst (λ x. AreHeld (g.H.Home.seen c.if-other-doubt.home) x) (sym w.world-is) (subst (λ h. AreHeld (g.H.Home.seen h) c.loop-place.world) (sym w.home-is) c.loop-place.invariant.held);
            rest = λ s r. subst (λ h. OnlyOwnFilesChange (length s.kinds) s.coordinators old (g.H.Home.seen h)) (sym w.home-is) (c.loop-place.invariant.rest s r);
          }
    ]

pub returns-clause-did : goal.returns-clause-did
returns-clause-did g c = λ s r reached may.
    let w = c.requires.asks in
    let d = c.args.doubt.now in
    let n = c.loop-place.place in
    let over = c.loop-place-test.false in
    let bound = c.loop-place.auto.place-end in
    let all = w.4 ∙ sym w.1.cluster.kinds ∙ r.cluster.kinds in
    let whole : n ≡ length s.kinds = omega (arith, over, bound, all) in
    let quiet = c.loop-place.invariant.silent s r reached may in
    let none = turn_none s d n whole quiet.1 in (
      c.new.ensures ∙ ap (λ hs. transcript_along (suc c.args.number) hs s) (sym none),
      subst (λ hs. RepresentsWorld g.E.Engine.takes g.E.Engine.stands_for c.loop-place.world (run hs s)) (sym none) quiet.0,
    )
