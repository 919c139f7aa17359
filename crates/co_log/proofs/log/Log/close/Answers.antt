use Rattle.std.proofs.Common.{rules, ◌≡◌, [], ◌∷◌, ℕ, List, sym, ap, subst, ◌∙◌, refl, false}
use Rattle.std.specs.Prelude.{Option, Some, option_map, Ok, Err}
use Rattle.co_disk.specs.DiskModel.{DiskState, IsChosen, IsImage, after_write, after_sync}
use Rattle.co_disk.specs.DiskView.{DiskView}
use Rattle.co_disk.specs.Stops.{armed_for}
use Rattle.co_outside.specs.declared.spot.Spot.{Spot}
use Rattle.co_log.specs.declared.fault.LogFault.TheVariants as faults
use Rattle.co_base.specs.declared.leaves.Stop.{Stop}
use Rattle.co_frame.specs.Gate.{begins_closed}
use Rattle.co_log.specs.LogView.{LogView}
use Rattle.co_log.specs.Spare.{IsClosing, IsSpareImage}
use Rattle.co_log.proofs.Unmade.{closed_by, spare_images, closed_spare, chosen_spare, read_stable}
use Rattle.co_log.proofs.Currents.{closing_current}
use Rattle.co_log.proofs.Stops.{stopped_early, all_stable}
use Rattle.co_log.proofs.log.Log.close.Goals as goal

pub returns-in-Err-Stopped-clause-closing : goal.returns-in-Err-Stopped-clause-closing
returns-in-Err-Stopped-clause-closing g c =
    let old = c.self.inside.spare.state in
    let still = subst (λ (l : LogView). l.spare.state.pending ≡ []) (sym c.self.view_is) c.requires.still in
    let unclosed = subst (λ (l : LogView). begins_closed l.spare.state.stable ≡ false) (sym c.self.view_is) c.requires.unclosed in
    let mid = ap (λ (d : DiskState). after_write d 0 (0 ∷ [])) (c.arm_for.ensures.state ∙ all_stable old still) in
    let e = stopped_early c.take-stop.result c.arm_for.new.disk.armed c.in-Err-Stopped.call (after_write c.arm_for.new.disk.state 0 (0 ∷ [])) c.write_through.new.disk c.arm_for.ensures.armed (c.in-Err-Stopped.ensures.stopped c.in-Err-Stopped.call (search rules)) in
    let chosen = subst (λ (d : DiskState). IsChosen d e.0.leaves c.write_through.new.disk.state.stable) mid e.0.left.chosen in
    let after : LogView = record { node = c.self.inside.node; version = c.self.inside.version; current = c.self.inside.current; spare = c.write_through.new.disk; gate = c.self.inside.gate; generation = c.self.inside.generation; waiting = c.clear.new.self.items; stop = c.take-stop.new.self } in
    subst (λ (l : LogView). IsClosing l after (Err (faults.Stopped c.in-Err-Stopped.call false c.new-marks.result))) c.self.view_is (
      e.0.leaves,
      sym c.take-stop.ensures.value ∙ e.0.is,
      e.1,
      refl,
      c.new-marks.ensures,
      record {
        node = refl;
        version = refl;
        current = refl;
        gate = refl;
        generation = refl;
        disarmed = c.take-stop.ensures.after;
        spot = c.write_through.ensures.spot ∙ c.arm_for.ensures.spot;
        still = e.0.left.stable;
        closed_is = closed_by old.stable c.write_through.new.disk.state.stable e.0.leaves unclosed chosen;
        image = chosen_spare old.stable c.write_through.new.disk.state.stable e.0.leaves unclosed chosen;
      },
      c.clear.ensures.items,
    )

pub returns-in-Err-Stopped-clause-told : goal.returns-in-Err-Stopped-clause-told
returns-in-Err-Stopped-clause-told g c = λ f told.
    let old = c.self.inside.spare.state in
    let still = subst (λ (l : LogView). l.spare.state.pending ≡ []) (sym c.self.view_is) c.requires.still in
    let unclosed = subst (λ (l : LogView). begins_closed l.spare.state.stable ≡ false) (sym c.self.view_is) c.requires.unclosed in
    let mid = ap (λ (d : DiskState). after_write d 0 (0 ∷ [])) (c.arm_for.ensures.state ∙ all_stable old still) in
    let its = c.arm_for.ensures.spot ∙ ap (λ (l : LogView). l.spare.spot) c.self.view_is in
    let told' = subst (λ (s : Spot). (g.H.Home.seen c.write_through.new.home).file s ≡ Some f) (sym its) told in
    let image = subst (λ (d : DiskState). IsImage d f.bytes) mid (c.in-Err-Stopped.ensures.image f told') in
    subst (λ (l : LogView). IsSpareImage l.spare.state.stable f.bytes) c.self.view_is (spare_images old.stable f.bytes unclosed image)

pub returns-in-Err-Device-clause-told : goal.returns-in-Err-Device-clause-told
returns-in-Err-Device-clause-told g c = λ f told.
    let old = c.self.inside.spare.state in
    let still = subst (λ (l : LogView). l.spare.state.pending ≡ []) (sym c.self.view_is) c.requires.still in
    let unclosed = subst (λ (l : LogView). begins_closed l.spare.state.stable ≡ false) (sym c.self.view_is) c.requires.unclosed in
    let mid = ap (λ (d : DiskState). after_write d 0 (0 ∷ [])) (c.arm_for.ensures.state ∙ all_stable old still) in
    let its = c.arm_for.ensures.spot ∙ ap (λ (l : LogView). l.spare.spot) c.self.view_is in
    let told' = subst (λ (s : Spot). (g.H.Home.seen c.write_through.new.home).file s ≡ Some f) (sym its) told in
    let image = subst (λ (d : DiskState). IsImage d f.bytes) mid (c.in-Err-Device.ensures.image f told') in
    subst (λ (l : LogView). IsSpareImage l.spare.state.stable f.bytes) c.self.view_is (spare_images old.stable f.bytes unclosed image)

pub returns-in-Err-Memory-clause-told : goal.returns-in-Err-Memory-clause-told
returns-in-Err-Memory-clause-told g c = λ f told.
    let old = c.self.inside.spare.state in
    let still = subst (λ (l : LogView). l.spare.state.pending ≡ []) (sym c.self.view_is) c.requires.still in
    let unclosed = subst (λ (l : LogView). begins_closed l.spare.state.stable ≡ false) (sym c.self.view_is) c.requires.unclosed in
    let mid = ap (λ (d : DiskState). after_write d 0 (0 ∷ [])) (c.arm_for.ensures.state ∙ all_stable old still) in
    let its = c.arm_for.ensures.spot ∙ ap (λ (l : LogView). l.spare.spot) c.self.view_is in
    let told' = subst (λ (s : Spot). (g.H.Home.seen c.write_through.new.home).file s ≡ Some f) (sym its) told in
    let image = subst (λ (d : DiskState). IsImage d f.bytes) mid (c.in-Err-Memory.ensures.image f told') in
    subst (λ (l : LogView). IsSpareImage l.spare.state.stable f.bytes) c.self.view_is (spare_images old.stable f.bytes unclosed image)

pub returns-in-Ok-clause-closing : goal.returns-in-Ok-clause-closing
returns-in-Ok-clause-closing g c =
    let old = c.self.inside.spare.state in
    let still = subst (λ (l : LogView). l.spare.state.pending ≡ []) (sym c.self.view_is) c.requires.still in
    let done = ap (λ (d : DiskView). d.state) c.disarm.ensures ∙ c.in-Ok.ensures.done ∙ ap (λ (d : DiskState). after_sync (after_write d 0 (0 ∷ []))) c.arm_for.ensures.state in
    let it = closed_spare old c.disarm.new.self.state still done in
    let after : LogView = record { node = c.self.inside.node; version = c.self.inside.version; current = c.self.inside.current; spare = c.disarm.new.self; gate = c.self.inside.gate; generation = c.self.inside.generation; waiting = c.self.inside.waiting.items; stop = c.take-stop.new.self } in
    subst (λ (l : LogView). IsClosing l after (Ok tt)) c.self.view_is (
      record {
        node = refl;
        version = refl;
        current = refl;
        gate = refl;
        generation = refl;
        disarmed = c.take-stop.ensures.after;
        spot = ap (λ (d : DiskView). d.spot) c.disarm.ensures ∙ c.write_through.ensures.spot ∙ c.arm_for.ensures.spot;
        still = it.0;
        closed_is = it.1;
        image = it.2;
      },
      refl,
      λ s is. c.in-Ok.ensures.passed (armed_for s.call s.leaves) (c.arm_for.ensures.armed ∙ ap (λ (o : Option Stop). option_map (λ t. armed_for t.call t.leaves) o) (c.take-stop.ensures.value ∙ is)),
    )

pub returns-in-Ok-clause-told : goal.returns-in-Ok-clause-told
returns-in-Ok-clause-told g c = λ f told.
    let old = c.self.inside.spare.state in
    let still = subst (λ (l : LogView). l.spare.state.pending ≡ []) (sym c.self.view_is) c.requires.still in
    let it = closed_spare old c.write_through.new.disk.state still (c.in-Ok.ensures.done ∙ ap (λ (d : DiskState). after_sync (after_write d 0 (0 ∷ []))) c.arm_for.ensures.state) in
    let its = c.arm_for.ensures.spot ∙ ap (λ (l : LogView). l.spare.spot) c.self.view_is in
    let told' = subst (λ (s : Spot). (g.H.Home.seen c.write_through.new.home).file s ≡ Some f) (sym its) told in
    let whole = c.in-Ok.ensures.agrees.told f told' ∙ read_stable c.write_through.new.disk.state it.0 in
    subst (λ (l : LogView). IsSpareImage l.spare.state.stable f.bytes) c.self.view_is (subst (λ (b : List ℕ). IsSpareImage old.stable b) (sym whole) it.2)

pub returns-in-Ok-clause-current : goal.returns-in-Ok-clause-current
returns-in-Ok-clause-current g c =
    let its = c.arm_for.ensures.spot ∙ ap (λ (l : LogView). l.spare.spot) c.self.view_is in
    closing_current (g.H.Home.seen c.args.home.now) (g.H.Home.seen c.write_through.new.home) c.args.self.now c.arm_for.new.disk.spot c.requires.held its c.in-Ok.ensures.rest (returns-in-Ok-clause-told g c)

pub returns-in-Err-Stopped-clause-current : goal.returns-in-Err-Stopped-clause-current
returns-in-Err-Stopped-clause-current g c =
    let its = c.arm_for.ensures.spot ∙ ap (λ (l : LogView). l.spare.spot) c.self.view_is in
    closing_current (g.H.Home.seen c.args.home.now) (g.H.Home.seen c.write_through.new.home) c.args.self.now c.arm_for.new.disk.spot c.requires.held its c.in-Err-Stopped.ensures.rest (returns-in-Err-Stopped-clause-told g c)

pub returns-in-Err-Device-clause-current : goal.returns-in-Err-Device-clause-current
returns-in-Err-Device-clause-current g c =
    let its = c.arm_for.ensures.spot ∙ ap (λ (l : LogView). l.spare.spot) c.self.view_is in
    closing_current (g.H.Home.seen c.args.home.now) (g.H.Home.seen c.write_through.new.home) c.args.self.now c.arm_for.new.disk.spot c.requires.held its c.in-Err-Device.ensures.rest (returns-in-Err-Device-clause-told g c)

pub returns-in-Err-Memory-clause-current : goal.returns-in-Err-Memory-clause-current
returns-in-Err-Memory-clause-current g c =
    let its = c.arm_for.ensures.spot ∙ ap (λ (l : LogView). l.spare.spot) c.self.view_is in
    closing_current (g.H.Home.seen c.args.home.now) (g.H.Home.seen c.write_through.new.home) c.args.self.now c.arm_for.new.disk.spot c.requires.held its c.in-Err-Memory.ensures.rest (returns-in-Err-Memory-clause-told g c)
