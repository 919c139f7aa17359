use Rattle.std.proofs.Common.{◌≡◌, ◌≤◌, ap, sym, ◌∙◌, take, reverse, length, arith}
use Rattle.std.proofs.lemmas.List.{take_all}
use Rattle.co_state.specs.EngineState.{records_now}
use Rattle.co_state.proofs.Rows.{records_at-take}
use Rattle.co_state.proofs.records.records_at.Goals as goal

pub returns-then-count-place : goal.returns-then-count-place
returns-then-count-place c =
    let e : c.loop-place.place ≡ c.args.count = omega (arith, c.loop-place.invariant.within, c.if-count-place.true) in
    c.loop-place.invariant.laid ∙ ap (λ n. records_now c.args.base.now (reverse (take n c.args.oldest_first.now))) e ∙ records_at-take c.args.base.now c.args.oldest_first.now c.args.count

pub returns : goal.returns
returns c =
    let h : length c.args.oldest_first.now ≤ c.loop-place.place = omega (arith, c.loop-place-test.false) in
    let k : length c.args.oldest_first.now ≤ c.args.count = omega (arith, c.loop-place.invariant.within, h) in
    c.loop-place.invariant.laid
    ∙ ap (λ is. records_now c.args.base.now (reverse is)) (take_all c.loop-place.place c.args.oldest_first.now h ∙ sym (take_all c.args.count c.args.oldest_first.now k))
    ∙ records_at-take c.args.base.now c.args.oldest_first.now c.args.count
