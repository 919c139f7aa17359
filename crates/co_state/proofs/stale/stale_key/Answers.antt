use Rattle.std.proofs.Common.{◌-◌, ap, ◌∙◌, take, reverse, arith, option_copied}
use Rattle.co_state.specs.Search.{least_with}
use Rattle.co_state.specs.StaleRead.{stale_keys}
use Rattle.co_state.proofs.Staleness.{stale_more}
use Rattle.co_state.proofs.stale.stale_key.Goals as goal

pub loop-place-preserved : goal.loop-place-preserved
loop-place-preserved c =
    let w = c.loop-place.invariant.within in
    let t = c.loop-place-test.true in
    record {
      within = omega (arith, w);
      rest = ap (λ k. least_with k (stale_keys (reverse c.args.installs.now) (reverse (take (c.loop-place.place - 1) c.args.operations.now)))) c.least_since-least.ensures
          ∙ stale_more (option_copied c.loop-place.least) (reverse c.args.installs.now) c.args.operations.now (c.loop-place.place - 1) c.loop-place.place c.index-operations-place.result (omega (arith, w, t)) (omega (arith, t)) c.index-operations-place.is ∙ c.loop-place.invariant.rest;
    }
