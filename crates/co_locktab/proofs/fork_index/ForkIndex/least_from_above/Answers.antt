use Rattle.std.proofs.Common.{ℕ, Option, Bool, true, not, ◌&&◌, refl, sym, ap, ◌∙◌, if◌then◌else◌, filter}
use Rattle.std.specs.Ordering.{is_lt}
use Rattle.co_base.specs.Order.{key_cmp}
use Rattle.co_locktab.specs.declared.place.Place.{Place}
use Rattle.co_locktab.specs.declared.place.ByUpper.{ByUpper}
use Rattle.co_locktab.specs.Places.{by_upper}
use Rattle.co_locktab.proofs.Placing.{upper_total, upper_apart}
use Rattle.co_locktab.proofs.Walking.{walk, go_on, weigh_one, weighs, out_below, has_to}
use Rattle.co_locktab.proofs.fork_index.ForkIndex.least_from_above.Goals as goal

pub returns-in_default : goal.returns-in_default
returns-in_default c =
    let key = c.args.key.now in
    let reach : ByUpper → Bool = (λ r. not (is_lt (key_cmp r.range.hi key))) in
    let weigh : Option ℕ → ByUpper → Option ℕ = (λ l r. weigh_one c.args.held.now key c.args.t l r.range) in
    weighs upper_total upper_apart (λ r. r.range) reach c.args.held.now key c.args.t c.args.fork (out_below key) (λ r. has_to key r.range) (λ s. record { range = s }) (λ s. refl)
    c.args.self.now.upper c.args.before c.loop-place.least c.into_iter-place-iterator.result c.range-place-items.ensures.ordered
    (c.into_iter-place-iterator.ensures.into_iter_gives ∙ c.range-place-items.ensures.between tt
    ∙ ap (λ (start : Place ByUpper). filter (λ p. is_lt (by_upper start p) && true) c.args.self.now.upper.keys) c.before-start.ensures)
    (sym c.loop-place.invariant ∙ ap (walk reach weigh c.args.fork c.loop-place.least) c.in-Some.ensures.steps ∙ ap (go_on reach weigh c.loop-place.least (λ l. walk reach weigh c.args.fork l c.next.new.self)) (sym c.in_default.ensures))

pub returns-then-lt : goal.returns-then-lt
returns-then-lt c =
    let key = c.args.key.now in
    let reach : ByUpper → Bool = (λ r. not (is_lt (key_cmp r.range.hi key))) in
    let weigh : Option ℕ → ByUpper → Option ℕ = (λ l r. weigh_one c.args.held.now key c.args.t l r.range) in
    weighs upper_total upper_apart (λ r. r.range) reach c.args.held.now key c.args.t c.args.fork (out_below key) (λ r. has_to key r.range) (λ s. record { range = s }) (λ s. refl)
    c.args.self.now.upper c.args.before c.loop-place.least c.into_iter-place-iterator.result c.range-place-items.ensures.ordered
    (c.into_iter-place-iterator.ensures.into_iter_gives ∙ c.range-place-items.ensures.between tt
    ∙ ap (λ (start : Place ByUpper). filter (λ p. is_lt (by_upper start p) && true) c.args.self.now.upper.keys) c.before-start.ensures)
    (sym c.loop-place.invariant ∙ ap (walk reach weigh c.args.fork c.loop-place.least) c.in-Some.ensures.steps ∙ ap (go_on reach weigh c.loop-place.least (λ l. walk reach weigh c.args.fork l c.next.new.self)) (sym c.in-Some-range_at.ensures)
    ∙ ap (λ (b : Bool). if not b then walk reach weigh c.args.fork (weigh c.loop-place.least c.in-Some-range_at.by_upper.now) c.next.new.self else c.loop-place.least)
    (sym (sym c.if-lt.true ∙ c.lt.ensures ∙ (λ i. is_lt (key_cmp (c.hi.ensures i) key)))))

pub returns : goal.returns
returns c =
    let key = c.args.key.now in
    let reach : ByUpper → Bool = (λ r. not (is_lt (key_cmp r.range.hi key))) in
    let weigh : Option ℕ → ByUpper → Option ℕ = (λ l r. weigh_one c.args.held.now key c.args.t l r.range) in
    weighs upper_total upper_apart (λ r. r.range) reach c.args.held.now key c.args.t c.args.fork (out_below key) (λ r. has_to key r.range) (λ s. record { range = s }) (λ s. refl)
    c.args.self.now.upper c.args.before c.loop-place.least c.into_iter-place-iterator.result c.range-place-items.ensures.ordered
    (c.into_iter-place-iterator.ensures.into_iter_gives ∙ c.range-place-items.ensures.between tt
    ∙ ap (λ (start : Place ByUpper). filter (λ p. is_lt (by_upper start p) && true) c.args.self.now.upper.keys) c.before-start.ensures)
    (sym c.loop-place.invariant ∙ ap (walk reach weigh c.args.fork c.loop-place.least) c.in-None.ensures.steps.0)
