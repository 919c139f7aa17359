use Rattle.std.proofs.Common.{◌-◌, ap, ◌∙◌, take, reverse, arith, option_copied}
use Rattle.std.specs.FinMap.{entries}
use Rattle.co_state.specs.Search.{least_with}
use Rattle.co_occ.specs.Last.{keys_after}
use Rattle.co_occ.proofs.Unseeing.{after_more}
use Rattle.co_occ.proofs.validation.stale_key.Goals as goal

pub loop-place-preserved : goal.loop-place-preserved
loop-place-preserved c =
    let w = c.loop-place.invariant.within in
    let t = c.loop-place-test.true in
    record {
      within = omega (arith, w);
      rest = ap (λ k. least_with k (keys_after (entries c.args.lasts.now) (reverse (take (c.loop-place.place - 1) c.args.reads.now)))) c.least_unseen-least.ensures
          ∙ after_more (option_copied c.loop-place.least) (entries c.args.lasts.now) c.args.reads.now (c.loop-place.place - 1) c.loop-place.place c.index-reads-place.result (omega (arith, w, t)) (omega (arith, t)) c.index-reads-place.is ∙ c.loop-place.invariant.rest;
    }
