use Rattle.std.proofs.Common.{◌-◌, ap, sym, ◌∙◌, take, reverse, arith, option_copied, map, filter}
use Rattle.co_base.specs.declared.written.Written.{Written}
use Rattle.co_state.specs.declared.engine_state.Install.{Install}
use Rattle.co_state.specs.Changes.{span_read}
use Rattle.co_state.specs.Search.{least_with, range_has}
use Rattle.co_state.specs.StaleRead.{keys_since, overwritten}
use Rattle.co_state.proofs.Staleness.{since_more, since_none}
use Rattle.co_state.proofs.stale.least_since.Goals as goal

pub loop-place-preserved : goal.loop-place-preserved
loop-place-preserved c =
    let w = c.loop-place.invariant.within in
    let t = c.loop-place-test.true in
    record {
      within = omega (arith, w);
      rest =
          ap (λ k. least_with k (overwritten (span_read c.args.operation.now.op) (keys_since (reverse (take (c.loop-place.place - 1) c.args.installs.now)) c.args.operation.now.stamp)))
          (c.least_changed-least.ensures ∙ ap (λ ws. least_with (option_copied c.loop-place.least) (filter (range_has (span_read c.args.operation.now.op)) (map (λ (w : Written). w.key) ws))) (c.as_slice.ensures ∙ ap (λ (i : Install). i.writes) (sym c.index-installs-place.is)))
          ∙ since_more (option_copied c.loop-place.least) (span_read c.args.operation.now.op) c.args.installs.now (c.loop-place.place - 1) c.loop-place.place c.args.operation.now.stamp c.index-installs-place.result (omega (arith, w, t)) (omega (arith, t)) c.index-installs-place.is (omega (arith, t)) ∙ c.loop-place.invariant.rest;
    }

pub returns : goal.returns
returns c =
    since_none (option_copied c.loop-place.least) (span_read c.args.operation.now.op) c.args.installs.now c.loop-place.place c.args.operation.now.stamp c.loop-place.invariant.within (omega (arith, c.loop-place-test.false)) ∙ c.loop-place.invariant.rest
