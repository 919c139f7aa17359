use Rattle.std.proofs.Common.{rules, ◌≡◌, ◌+◌, [], ◌∷◌, sym, ap, subst, ◌∙◌}
use Rattle.std.specs.Prelude.{Some}
use Rattle.co_disk.specs.DiskModel.{DiskState, after_write, after_sync, IsImage}
use Rattle.co_outside.specs.declared.spot.Spot.{Spot}
use Rattle.co_log.specs.BatchWrite.{disk_at}
use Rattle.co_log.proofs.Stops.{stopped_first, stopped_second, all_stable, early, late}
use Rattle.co_log.proofs.writing.write_batch.Goals as goal

pub returns-in_err-write_through-clause-stopped : goal.returns-in_err-write_through-clause-stopped
returns-in_err-write_through-clause-stopped g c = λ call is.
    let old = c.args.disk.now.state in
    let pending = ap (λ (d : DiskState). after_write d (c.args.gate + 1) c.args.batch.now) (c.arm_for.ensures.state ∙ all_stable old c.requires.stable) in
    stopped_first c.args.stop c.arm_for.new.disk.armed call (λ n. disk_at n old.stable c.args.gate c.args.batch.now) (after_write c.arm_for.new.disk.state (c.args.gate + 1) c.args.batch.now) c.write_through.new.disk
    c.arm_for.ensures.armed (c.in_err-write_through.ensures.stopped call (search rules)) (λ n few. pending ∙ early old.stable c.args.gate c.args.batch.now n few)

pub returns-in_err-write_through-clause-memory : goal.returns-in_err-write_through-clause-memory
returns-in_err-write_through-clause-memory g c = λ is f told.
    let old = c.args.disk.now.state in
    let pending = ap (λ (d : DiskState). after_write d (c.args.gate + 1) c.args.batch.now) (c.arm_for.ensures.state ∙ all_stable old c.requires.stable) in
    let told' = subst (λ (s : Spot). (g.H.Home.seen c.write_through.new.home).file s ≡ Some f) (sym c.arm_for.ensures.spot) told in
    subst (λ (d : DiskState). IsImage d f.bytes) pending (c.in_err-write_through.ensures.image f told')

pub returns-in_err-write_through-2-clause-stopped : goal.returns-in_err-write_through-2-clause-stopped
returns-in_err-write_through-2-clause-stopped g c = λ call is.
    let old = c.args.disk.now.state in
    let first = c.in_ok-write_through.ensures in
    let pending = ap (λ (d : DiskState). after_write d (c.args.gate + 1) c.args.batch.now) (c.arm_for.ensures.state ∙ all_stable old c.requires.stable) in
    let opening = ap (λ (d : DiskState). after_write d c.args.gate (165 ∷ [])) (first.done ∙ ap (λ (d : DiskState). after_sync d) pending) in
    stopped_second c.args.stop c.arm_for.new.disk.armed c.write_through.new.disk.armed call (λ n. disk_at n old.stable c.args.gate c.args.batch.now) (after_write c.write_through.new.disk.state c.args.gate (165 ∷ [])) c.write_through-2.new.disk
    c.arm_for.ensures.armed first.passed first.counted (c.in_err-write_through-2.ensures.stopped call (search rules)) (λ n many. opening ∙ late old.stable c.args.gate c.args.batch.now n many)
