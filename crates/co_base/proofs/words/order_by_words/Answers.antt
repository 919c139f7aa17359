use Rattle.std.proofs.Common.{◌≡◌, ◌*◌, ◌+◌, drop, sym, ap, ◌∙◌, arith}
use Rattle.std.specs.Ordering.{nat_cmp, ordering_then}
use Rattle.std.specs.Cmp.Lexicographic.{slice_cmp}
use Rattle.std.proofs.lemmas.List.{drop_all}
use Rattle.co_base.proofs.Numbers.{next_word, apart, alike}
use Rattle.co_base.proofs.words.order_by_words.Goals as goal

pub returns-then-mine-theirs : goal.returns-then-mine-theirs
returns-then-mine-theirs c =
    let xs = c.args.own.now in
    let ys = c.args.other.now in
    let differ = c.if-mine-theirs.true in
    c.cmp.ensures
    ∙ sym (apart _ _ (slice_cmp nat_cmp (drop (8 * c.loop-place.place + 8) xs) (drop (8 * c.loop-place.place + 8) ys)) differ)
    ∙ (λ i. ordering_then (nat_cmp (c.word-mine.ensures i) (c.word-theirs.ensures i)) (slice_cmp nat_cmp (drop (8 * c.loop-place.place + 8) xs) (drop (8 * c.loop-place.place + 8) ys)))
    ∙ sym (next_word xs ys (c.told-own ∙ sym c.told-other) c.fits-own c.fits-other (8 * c.loop-place.place))
    ∙ sym c.loop-place.invariant

pub loop-place-preserved : goal.loop-place-preserved
loop-place-preserved c =
    let xs = c.args.own.now in
    let ys = c.args.other.now in
    let at = 8 * c.loop-place.place in
    let next : at + 8 ≡ 8 * (c.loop-place.place + 1) = omega arith in
    let same = sym c.word-mine.ensures ∙ c.if-mine-theirs.false ∙ c.word-theirs.ensures in
    c.loop-place.invariant
    ∙ next_word xs ys (c.told-own ∙ sym c.told-other) c.fits-own c.fits-other at
    ∙ alike _ _ (slice_cmp nat_cmp (drop (at + 8) xs) (drop (at + 8) ys)) same
    ∙ ap (λ k. slice_cmp nat_cmp (drop k xs) (drop k ys)) next

pub returns : goal.returns
returns c =
    let xs = c.args.own.now in
    let ys = c.args.other.now in
    let at = 8 * c.loop-place.place in
    sym (c.loop-place.invariant
    ∙ (λ i. slice_cmp nat_cmp (drop_all at xs (omega (arith, c.told-own)) i) (drop_all at ys (omega (arith, c.told-other)) i)))
