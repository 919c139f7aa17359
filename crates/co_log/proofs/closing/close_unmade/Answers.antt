use Rattle.std.proofs.Common.{rules, ◌≡◌, ◌∷◌, [], sym, ap, subst, ◌∙◌, false}
use Rattle.std.specs.Prelude.{Some}
use Rattle.co_disk.specs.DiskModel.{after_write, after_sync, IsImage}
use Rattle.co_disk.specs.DiskView.{DiskView}
use Rattle.co_frame.specs.Gate.{begins_closed}
use Rattle.co_log.proofs.Stops.{never_stopped}
use Rattle.co_log.proofs.Unmade.{short_unmade, closed_disk, short_image, read_stable}
use Rattle.co_log.proofs.closing.close_unmade.Goals as goal

pub unreachable-requires : goal.unreachable-requires
unreachable-requires g c =
    let s = c.in-Err-Stopped.ensures.stopped c.in-Err-Stopped.field-0-0 (search rules) in
    never_stopped 2 c.disarm.new.self.armed c.in-Err-Stopped.field-0-0 (after_write c.disarm.new.self.state 0 (0 ∷ [])) c.write_through.new.disk (ap (λ (d : DiskView). d.armed) c.disarm.ensures) s

pub returns-in-Ok-clause-ends : goal.returns-in-Ok-clause-ends
returns-in-Ok-clause-ends g c =
    closed_disk c.args.disk.now.state c.write_through.new.disk.state c.requires.stable (c.in-Ok.ensures.done ∙ ap (λ (d : DiskView). after_sync (after_write d.state 0 (0 ∷ []))) c.disarm.ensures)

pub returns-in-Err-Device-clause-told : goal.returns-in-Err-Device-clause-told
returns-in-Err-Device-clause-told g c = λ f told.
    let old = c.args.disk.now.state in
    let bytes : c.bytes.result.now ≡ old.stable = c.bytes.ensures.read ∙ read_stable old c.requires.stable in
    let open' : begins_closed old.stable ≡ false = sym (ap begins_closed bytes) ∙ sym c.begins_closed.ensures ∙ c.if-begins_closed.false in
    let told' = subst (λ (d : DiskView). (g.H.Home.seen c.write_through.new.home).file d.spot ≡ Some f) (sym c.disarm.ensures) told in
    let image = subst (λ (d : DiskView). IsImage (after_write d.state 0 (0 ∷ [])) f.bytes) c.disarm.ensures (c.in-Err-Device.ensures.image f told') in
    short_image old f.bytes c.requires.stable (short_unmade old.stable c.requires.none open') image
