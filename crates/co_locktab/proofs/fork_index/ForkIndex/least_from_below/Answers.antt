use Rattle.std.proofs.Common.{ℕ, Option, Bool, true, not, ◌&&◌, refl, sym, ap, ◌∙◌, if◌then◌else◌, filter}
use Rattle.std.specs.Ordering.{is_lt}
use Rattle.co_base.specs.Order.{key_cmp}
use Rattle.co_base.specs.Span.{Span}
use Rattle.co_locktab.specs.declared.place.Place.{Place}
use Rattle.co_locktab.specs.Places.{by_lower}
use Rattle.co_locktab.proofs.Orders.{spans_total, spans_apart}
use Rattle.co_locktab.proofs.Walking.{walk, go_on, weigh_one, weighs, out_above, has_from}
use Rattle.co_locktab.proofs.fork_index.ForkIndex.least_from_below.Goals as goal

pub returns-in_default : goal.returns-in_default
returns-in_default c =
    let key = c.args.key.now in
    let reach : Span → Bool = (λ s. not (is_lt (key_cmp key s.lo))) in
    let weigh : Option ℕ → Span → Option ℕ = (weigh_one c.args.held.now key c.args.t) in
    weighs spans_total spans_apart (λ s. s) reach c.args.held.now key c.args.t c.args.fork (out_above key) (has_from key) (λ s. s) (λ s. refl)
    c.args.self.now.lower c.args.before c.loop-place.least c.into_iter-place-iterator.result c.range-place-items.ensures.ordered
    (c.into_iter-place-iterator.ensures.into_iter_gives ∙ c.range-place-items.ensures.between tt
    ∙ ap (λ (start : Place Span). filter (λ p. is_lt (by_lower start p) && true) c.args.self.now.lower.keys) c.before-start.ensures)
    (sym c.loop-place.invariant ∙ ap (walk reach weigh c.args.fork c.loop-place.least) c.in-Some.ensures.steps ∙ ap (go_on reach weigh c.loop-place.least (λ l. walk reach weigh c.args.fork l c.next.new.self)) (sym c.in_default.ensures))

pub returns-then-lt : goal.returns-then-lt
returns-then-lt c =
    let key = c.args.key.now in
    let reach : Span → Bool = (λ s. not (is_lt (key_cmp key s.lo))) in
    let weigh : Option ℕ → Span → Option ℕ = (weigh_one c.args.held.now key c.args.t) in
    weighs spans_total spans_apart (λ s. s) reach c.args.held.now key c.args.t c.args.fork (out_above key) (has_from key) (λ s. s) (λ s. refl)
    c.args.self.now.lower c.args.before c.loop-place.least c.into_iter-place-iterator.result c.range-place-items.ensures.ordered
    (c.into_iter-place-iterator.ensures.into_iter_gives ∙ c.range-place-items.ensures.between tt
    ∙ ap (λ (start : Place Span). filter (λ p. is_lt (by_lower start p) && true) c.args.self.now.lower.keys) c.before-start.ensures)
    (sym c.loop-place.invariant ∙ ap (walk reach weigh c.args.fork c.loop-place.least) c.in-Some.ensures.steps ∙ ap (go_on reach weigh c.loop-place.least (λ l. walk reach weigh c.args.fork l c.next.new.self)) (sym c.in-Some-range_at.ensures)
    ∙ ap (λ (b : Bool). if not b then walk reach weigh c.args.fork (weigh c.loop-place.least c.in-Some-range_at.range.now) c.next.new.self else c.loop-place.least)
    (sym (sym c.if-lt.true ∙ c.lt.ensures ∙ (λ i. is_lt (key_cmp key (c.lo.ensures i))))))

pub returns : goal.returns
returns c =
    let key = c.args.key.now in
    let reach : Span → Bool = (λ s. not (is_lt (key_cmp key s.lo))) in
    let weigh : Option ℕ → Span → Option ℕ = (weigh_one c.args.held.now key c.args.t) in
    weighs spans_total spans_apart (λ s. s) reach c.args.held.now key c.args.t c.args.fork (out_above key) (has_from key) (λ s. s) (λ s. refl)
    c.args.self.now.lower c.args.before c.loop-place.least c.into_iter-place-iterator.result c.range-place-items.ensures.ordered
    (c.into_iter-place-iterator.ensures.into_iter_gives ∙ c.range-place-items.ensures.between tt
    ∙ ap (λ (start : Place Span). filter (λ p. is_lt (by_lower start p) && true) c.args.self.now.lower.keys) c.before-start.ensures)
    (sym c.loop-place.invariant ∙ ap (walk reach weigh c.args.fork c.loop-place.least) c.in-None.ensures.steps.0)
