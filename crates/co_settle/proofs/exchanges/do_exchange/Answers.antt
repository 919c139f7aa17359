use Rattle.std.proofs.Common.{[], ◌∷◌, subst, arith}
use Rattle.co_settle.specs.Notes.{passed}
use Rattle.co_settle.specs.Progress.{IsCutIn, HasDone}
use Rattle.co_settle.proofs.Composing.{cut_as, served_later}
use Rattle.co_settle.proofs.Noting.{after_first, after_passed, first_note, second_note, first_may, second_may, first_reached, passed_reached, first_cut, next_cut, last_cut, all_done, passed_short, may_as, went_first, went_next, events_of}
use Rattle.co_settle.proofs.Reaching.{ready}
use Rattle.co_settle.proofs.exchanges.do_exchange.Goals as goal

pub take_step-requires-clause-stands : goal.take_step-requires-clause-stands
take_step-requires-clause-stands g c = let w = c.requires.stands in (w.0, w.1, ready w.0 w.2)

pub returns-in_err-sent-clause-did : goal.returns-in_err-sent-clause-did
returns-in_err-sent-clause-did g c = λ s r reached h.
    let e = c.args.exchange in
    let file = (g.H.Home.seen c.take_step.new.home).file in
    cut_as g.E.Engine.takes g.E.Engine.stands_for s (events_of s reached e h) c.args.told.now c.take_step.new.told c.args.steps.now c.take_step.new.steps c.take_step.new.world file (λ u. Unit {0}) c.from_residual.result c.in_err-sent.field-0.0 c.from_residual.ensures
    (first_cut s reached e h file c.in_err-sent.field-0.0 (subst (λ v. IsCutIn (v ∷ []) s file c.in_err-sent.field-0.0) c.first_event-event.ensures (c.in_err-sent.ensures.did s r (ready s reached))))

pub pass_on-requires-clause-in_head : goal.pass_on-requires-clause-in_head
pass_on-requires-clause-in_head g c =
    let w = c.requires.stands in
    let one = went_first w.0 w.2 c.args.exchange w.3 g.E.Engine.takes g.E.Engine.stands_for c.args.told.now c.take_step.new.told c.args.steps.now c.take_step.new.steps c.take_step.new.world c.in_ok-sent.sent c.first_event-event.result c.first_want-first.result c.first_event-event.ensures c.first_want-first.ensures (c.in_ok-sent.ensures.did w.0 w.1 (ready w.0 w.2)) in
    may_as g.E.Engine.takes g.E.Engine.stands_for c.take_step.new.world (after_first w.0 w.2 c.args.exchange w.3).state (first_note w.0 c.args.exchange) c.in_ok-sent.sent one.done.stands one.sent_is (first_may w.0 w.2 c.args.exchange w.3)

pub pass_on-requires-clause-number : goal.pass_on-requires-clause-number
pass_on-requires-clause-number g c =
    let w = c.requires.stands in
    let one = went_first w.0 w.2 c.args.exchange w.3 g.E.Engine.takes g.E.Engine.stands_for c.args.told.now c.take_step.new.told c.args.steps.now c.take_step.new.steps c.take_step.new.world c.in_ok-sent.sent c.first_event-event.result c.first_want-first.result c.first_event-event.ensures c.first_want-first.ensures (c.in_ok-sent.ensures.did w.0 w.1 (ready w.0 w.2)) in
    let n = one.done.number in
    let k = c.requires.number in
    omega (arith, n, k)

pub pass_on-requires-clause-count : goal.pass_on-requires-clause-count
pass_on-requires-clause-count g c =
    let w = c.requires.stands in
    let one = went_first w.0 w.2 c.args.exchange w.3 g.E.Engine.takes g.E.Engine.stands_for c.args.told.now c.take_step.new.told c.args.steps.now c.take_step.new.steps c.take_step.new.world c.in_ok-sent.sent c.first_event-event.result c.first_want-first.result c.first_event-event.ensures c.first_want-first.ensures (c.in_ok-sent.ensures.did w.0 w.1 (ready w.0 w.2)) in
    let n = one.done.counted in
    let k = c.requires.count in
    omega (arith, n, k)

pub pass_on-requires-clause-stands : goal.pass_on-requires-clause-stands
pass_on-requires-clause-stands g c =
    let w = c.requires.stands in
    let one = went_first w.0 w.2 c.args.exchange w.3 g.E.Engine.takes g.E.Engine.stands_for c.args.told.now c.take_step.new.told c.args.steps.now c.take_step.new.steps c.take_step.new.world c.in_ok-sent.sent c.first_event-event.result c.first_want-first.result c.first_event-event.ensures c.first_want-first.ensures (c.in_ok-sent.ensures.did w.0 w.1 (ready w.0 w.2)) in
    ((after_first w.0 w.2 c.args.exchange w.3).state, one.done.stands, first_reached w.0 w.2 c.args.exchange w.3)

pub returns-in_err-answer-clause-did : goal.returns-in_err-answer-clause-did
returns-in_err-answer-clause-did g c = λ s r reached h.
    let e = c.args.exchange in
    let file = (g.H.Home.seen c.pass_on.new.home).file in
    let one = went_first s reached c.args.exchange h g.E.Engine.takes g.E.Engine.stands_for c.args.told.now c.take_step.new.told c.args.steps.now c.take_step.new.steps c.take_step.new.world c.in_ok-sent.sent c.first_event-event.result c.first_want-first.result c.first_event-event.ensures c.first_want-first.ensures (c.in_ok-sent.ensures.did s r (ready s reached)) in
    cut_as g.E.Engine.takes g.E.Engine.stands_for s (events_of s reached e h) c.args.told.now c.pass_on.new.told c.args.steps.now c.pass_on.new.steps c.pass_on.new.world file (λ u. Unit {0}) c.from_residual-in_err-answer.result c.in_err-answer.field-0.0 c.from_residual-in_err-answer.ensures
    (next_cut s reached e h file c.in_err-answer.field-0.0 (subst (λ o. IsCutIn (passed o) (after_first s reached e h).state file c.in_err-answer.field-0.0) one.sent_is (c.in_err-answer.ensures.did (after_first s reached e h).state one.done.stands (first_reached s reached e h))))

pub pass_on-requires-2-clause-in_head : goal.pass_on-requires-2-clause-in_head
pass_on-requires-2-clause-in_head g c =
    let w = c.requires.stands in
    let one = went_first w.0 w.2 c.args.exchange w.3 g.E.Engine.takes g.E.Engine.stands_for c.args.told.now c.take_step.new.told c.args.steps.now c.take_step.new.steps c.take_step.new.world c.in_ok-sent.sent c.first_event-event.result c.first_want-first.result c.first_event-event.ensures c.first_want-first.ensures (c.in_ok-sent.ensures.did w.0 w.1 (ready w.0 w.2)) in
    let two = went_next w.0 w.2 c.args.exchange w.3 g.E.Engine.takes g.E.Engine.stands_for c.take_step.new.told c.pass_on.new.told c.take_step.new.steps c.pass_on.new.steps c.pass_on.new.world c.in_ok-sent.sent c.in_ok-answer.answer c.next_want-next.result one.sent_is c.next_want-next.ensures (c.in_ok-answer.ensures.did (after_first w.0 w.2 c.args.exchange w.3).state one.done.stands (first_reached w.0 w.2 c.args.exchange w.3)) in
    may_as g.E.Engine.takes g.E.Engine.stands_for c.pass_on.new.world (after_passed w.0 w.2 c.args.exchange w.3 (first_note w.0 c.args.exchange)) (second_note w.0 c.args.exchange) c.in_ok-answer.answer two.done.stands two.answer_is (second_may w.0 w.2 c.args.exchange w.3)

pub pass_on-requires-2-clause-number : goal.pass_on-requires-2-clause-number
pass_on-requires-2-clause-number g c =
    let w = c.requires.stands in
    let one = went_first w.0 w.2 c.args.exchange w.3 g.E.Engine.takes g.E.Engine.stands_for c.args.told.now c.take_step.new.told c.args.steps.now c.take_step.new.steps c.take_step.new.world c.in_ok-sent.sent c.first_event-event.result c.first_want-first.result c.first_event-event.ensures c.first_want-first.ensures (c.in_ok-sent.ensures.did w.0 w.1 (ready w.0 w.2)) in
    let two = went_next w.0 w.2 c.args.exchange w.3 g.E.Engine.takes g.E.Engine.stands_for c.take_step.new.told c.pass_on.new.told c.take_step.new.steps c.pass_on.new.steps c.pass_on.new.world c.in_ok-sent.sent c.in_ok-answer.answer c.next_want-next.result one.sent_is c.next_want-next.ensures (c.in_ok-answer.ensures.did (after_first w.0 w.2 c.args.exchange w.3).state one.done.stands (first_reached w.0 w.2 c.args.exchange w.3)) in
    let n = one.done.number in
    let m = two.done.number in
    let l = passed_short (first_note w.0 c.args.exchange) in
    let k = c.requires.number in
    omega (arith, n, m, l, k)

pub pass_on-requires-2-clause-count : goal.pass_on-requires-2-clause-count
pass_on-requires-2-clause-count g c =
    let w = c.requires.stands in
    let one = went_first w.0 w.2 c.args.exchange w.3 g.E.Engine.takes g.E.Engine.stands_for c.args.told.now c.take_step.new.told c.args.steps.now c.take_step.new.steps c.take_step.new.world c.in_ok-sent.sent c.first_event-event.result c.first_want-first.result c.first_event-event.ensures c.first_want-first.ensures (c.in_ok-sent.ensures.did w.0 w.1 (ready w.0 w.2)) in
    let two = went_next w.0 w.2 c.args.exchange w.3 g.E.Engine.takes g.E.Engine.stands_for c.take_step.new.told c.pass_on.new.told c.take_step.new.steps c.pass_on.new.steps c.pass_on.new.world c.in_ok-sent.sent c.in_ok-answer.answer c.next_want-next.result one.sent_is c.next_want-next.ensures (c.in_ok-answer.ensures.did (after_first w.0 w.2 c.args.exchange w.3).state one.done.stands (first_reached w.0 w.2 c.args.exchange w.3)) in
    let n = one.done.counted in
    let m = two.done.counted in
    let l = passed_short (first_note w.0 c.args.exchange) in
    let k = c.requires.count in
    omega (arith, n, m, l, k)

pub pass_on-requires-2-clause-stands : goal.pass_on-requires-2-clause-stands
pass_on-requires-2-clause-stands g c =
    let w = c.requires.stands in
    let one = went_first w.0 w.2 c.args.exchange w.3 g.E.Engine.takes g.E.Engine.stands_for c.args.told.now c.take_step.new.told c.args.steps.now c.take_step.new.steps c.take_step.new.world c.in_ok-sent.sent c.first_event-event.result c.first_want-first.result c.first_event-event.ensures c.first_want-first.ensures (c.in_ok-sent.ensures.did w.0 w.1 (ready w.0 w.2)) in
    let two = went_next w.0 w.2 c.args.exchange w.3 g.E.Engine.takes g.E.Engine.stands_for c.take_step.new.told c.pass_on.new.told c.take_step.new.steps c.pass_on.new.steps c.pass_on.new.world c.in_ok-sent.sent c.in_ok-answer.answer c.next_want-next.result one.sent_is c.next_want-next.ensures (c.in_ok-answer.ensures.did (after_first w.0 w.2 c.args.exchange w.3).state one.done.stands (first_reached w.0 w.2 c.args.exchange w.3)) in
    (after_passed w.0 w.2 c.args.exchange w.3 (first_note w.0 c.args.exchange), two.done.stands, passed_reached w.0 w.2 c.args.exchange w.3 (first_note w.0 c.args.exchange))

pub returns-in_err-pass_on-clause-did : goal.returns-in_err-pass_on-clause-did
returns-in_err-pass_on-clause-did g c = λ s r reached h.
    let e = c.args.exchange in
    let file = (g.H.Home.seen c.pass_on-2.new.home).file in
    let one = went_first s reached c.args.exchange h g.E.Engine.takes g.E.Engine.stands_for c.args.told.now c.take_step.new.told c.args.steps.now c.take_step.new.steps c.take_step.new.world c.in_ok-sent.sent c.first_event-event.result c.first_want-first.result c.first_event-event.ensures c.first_want-first.ensures (c.in_ok-sent.ensures.did s r (ready s reached)) in
    let two = went_next s reached c.args.exchange h g.E.Engine.takes g.E.Engine.stands_for c.take_step.new.told c.pass_on.new.told c.take_step.new.steps c.pass_on.new.steps c.pass_on.new.world c.in_ok-sent.sent c.in_ok-answer.answer c.next_want-next.result one.sent_is c.next_want-next.ensures (c.in_ok-answer.ensures.did (after_first s reached c.args.exchange h).state one.done.stands (first_reached s reached c.args.exchange h)) in
    let z = after_passed s reached e h (first_note s e) in
    cut_as g.E.Engine.takes g.E.Engine.stands_for s (events_of s reached e h) c.args.told.now c.pass_on-2.new.told c.args.steps.now c.pass_on-2.new.steps c.pass_on-2.new.world file (λ u. Unit {0}) c.from_residual-in_err-pass_on.result c.in_err-pass_on.field-0.0 c.from_residual-in_err-pass_on.ensures
    (last_cut s reached e h file c.in_err-pass_on.field-0.0 (subst (λ o. IsCutIn (passed o) z file c.in_err-pass_on.field-0.0) two.answer_is (c.in_err-pass_on.ensures.did z two.done.stands (passed_reached s reached e h (first_note s e)))))

pub returns-clause-did : goal.returns-clause-did
returns-clause-did g c = λ s r reached h.
    let e = c.args.exchange in
    let one = went_first s reached c.args.exchange h g.E.Engine.takes g.E.Engine.stands_for c.args.told.now c.take_step.new.told c.args.steps.now c.take_step.new.steps c.take_step.new.world c.in_ok-sent.sent c.first_event-event.result c.first_want-first.result c.first_event-event.ensures c.first_want-first.ensures (c.in_ok-sent.ensures.did s r (ready s reached)) in
    let two = went_next s reached c.args.exchange h g.E.Engine.takes g.E.Engine.stands_for c.take_step.new.told c.pass_on.new.told c.take_step.new.steps c.pass_on.new.steps c.pass_on.new.world c.in_ok-sent.sent c.in_ok-answer.answer c.next_want-next.result one.sent_is c.next_want-next.ensures (c.in_ok-answer.ensures.did (after_first s reached c.args.exchange h).state one.done.stands (first_reached s reached c.args.exchange h)) in
    let z = after_passed s reached e h (first_note s e) in
    let three = c.in_ok-pass_on.ensures.did z two.done.stands (passed_reached s reached e h (first_note s e)) in (
      all_done s reached e h g.E.Engine.takes g.E.Engine.stands_for c.args.told.now c.take_step.new.told c.pass_on.new.told c.pass_on-2.new.told c.args.steps.now c.take_step.new.steps c.pass_on.new.steps c.pass_on-2.new.steps c.take_step.new.world c.pass_on.new.world c.pass_on-2.new.world one.done two.done
          (subst (λ o. HasDone g.E.Engine.takes g.E.Engine.stands_for z (passed o) c.pass_on.new.told c.pass_on-2.new.told c.pass_on.new.steps c.pass_on-2.new.steps c.pass_on-2.new.world) two.answer_is three.0),
      tt,
    )

pub returns-clause-ended : goal.returns-clause-ended
returns-clause-ended g c =
    let zero = (g.H.Home.seen c.args.home.now) in
    let first = (g.H.Home.seen c.take_step.new.home) in
    let next = (g.H.Home.seen c.pass_on.new.home) in
    let last = (g.H.Home.seen c.pass_on-2.new.home) in
    served_later c.pass_on.new.world c.pass_on-2.new.world zero next last (served_later c.take_step.new.world c.pass_on.new.world zero first next c.in_ok-sent.ensures.ended c.in_ok-answer.ensures.ended) c.in_ok-pass_on.ensures.ended
