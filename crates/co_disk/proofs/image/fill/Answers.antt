use Rattle.std.proofs.Common.{◌∙◌, ◌≤◌, length, take, get_or, arith, sym, refl, subst, ◌⊎◌, inl, inr, ℕ}
use Rattle.std.proofs.lemmas.Option.{slice_get-get_or}
use Rattle.co_base.specs.declared.leaves.Leaves.TheVariants.{Filled}
use Rattle.co_disk.specs.DiskModel.{IsChosen}
use Rattle.co_disk.specs.Kept.{entries, disk_over}
use Rattle.co_disk.proofs.Fill.{filled_none, filled_touched, filled_untouched, filled_all}
use Rattle.co_disk.proofs.image.fill.Goals as goal
use Rattle.co_disk.proofs.image.fill.Goals.{then-is_covered, else-is_covered, then-loop-place-test+else-used-with, else-loop-place-test}

pub loop-place-init : goal.loop-place-init
loop-place-init c = record { room = omega arith; within = omega arith; filled = λ sound long. filled_none _ _ _ }

pub loop-place-preserved : goal.loop-place-preserved
loop-place-preserved c =
    let used = c.loop-place.used in
    let place = c.loop-place.place in
    elim c.if-is_covered.branch [
      | then-is_covered w ↦ record {
        room = omega (arith, w.used-is);
        within = omega (arith, w.bytes-is);
        filled = λ sound long.
            rw (w.bytes-is, w.used-is) (filled_touched _ c.args.with.now c.args.bytes.now place used c.loop-place.bytes (get_or c.args.with.now used 0) (c.loop-place.invariant.filled sound long) (sym c.is_covered.ensures ∙ w.if-is_covered.true) (omega arith) (omega arith) (slice_get-get_or c.args.with.now used 0 (omega arith)));
      }
      | else-is_covered w ↦ record {
        room = omega (arith, w.used-is);
        within = omega (arith, w.bytes-is);
        filled = λ sound long.
            rw (w.bytes-is, w.used-is) (filled_untouched _ c.args.with.now c.args.bytes.now c.args.stable place used c.loop-place.bytes refl c.requires sound long (c.loop-place.invariant.filled sound long) (sym c.is_covered.ensures ∙ w.if-is_covered.false) (omega arith));
      }
    ]

pub returns-clause-chosen : goal.returns-clause-chosen
returns-clause-chosen c sound long =
    let used = c.loop-place.used in
    let place = c.loop-place.place in
    let ended : (length c.args.bytes.now ≤ place) ⊎ (length c.args.with.now ≤ used) = elim c.loop-place-test.branch [
      | then-loop-place-test+else-used-with w ↦ inr (omega (arith, w.if-used-with.false))
      | else-loop-place-test w ↦ inl (omega (arith, w.loop-place-test.false))
    ] in
    let disk = disk_over c.args.bytes.now c.args.stable (entries c.args.first.now c.args.touched.now) in
    subst (λ (n : ℕ). IsChosen disk (Filled c.args.with.now) (take n c.loop-place.bytes)) (sym c.max.ensures)
    (filled_all _ c.args.with.now c.args.bytes.now c.args.stable place used c.loop-place.bytes refl c.requires sound long (omega arith) (c.loop-place.invariant.filled sound long) ended)
