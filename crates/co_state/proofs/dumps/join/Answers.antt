use Rattle.std.proofs.Common.{◌-◌, ap, ◌∙◌, take, arith}
use Rattle.co_state.specs.Changes.{put_change}
use Rattle.co_state.specs.Effects.{joined}
use Rattle.co_state.proofs.Joining.{joined_more}
use Rattle.co_state.proofs.dumps.join.Goals as goal

pub loop-place-preserved : goal.loop-place-preserved
loop-place-preserved c =
    let w = c.loop-place.invariant.within in
    let t = c.loop-place-test.true in
    record {
      within = omega (arith, w);
      rest =
          ap (joined (take (c.loop-place.place - 1) c.args.others.now)) (c.in_ok-put_change.ensures ∙ ap (λ v. put_change v c.loop-place.changes.items) c.in_ok-copy.ensures)
          ∙ joined_more c.args.others.now (c.loop-place.place - 1) c.loop-place.place c.index-others-place.result c.loop-place.changes.items (omega (arith, w, t)) (omega (arith, t)) c.index-others-place.is ∙ c.loop-place.invariant.rest;
    }
