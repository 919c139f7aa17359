use Rattle.std.proofs.Common.{◌≡◌, ◌∙◌, Err, sym, ap, subst}
use Rattle.std.specs.Prelude.{option_map}
use Rattle.co_outside.specs.declared.spot.Spot.{Spot}
use Rattle.co_outside.specs.Home.{cleaned, Agrees}
use Rattle.co_disk.specs.DiskModel.{IsSound, read_of}
use Rattle.co_disk.specs.DiskView.{DiskView}
use Rattle.co_disk.specs.Homes.{IsImageIn}
use Rattle.co_disk.specs.Kept.{entries, state_of}
use Rattle.co_disk.proofs.Leaving.{stable_reached, begins_reached, ends_reached}
use Rattle.co_disk.proofs.HomeFaults.{device_only, device_of_sync}
use Rattle.co_disk.proofs.Writes.{untouched_image, cleaned_image}
use Rattle.co_disk.proofs.disk.Disk.make_stable.Goals as goal

pub returns-in_err-sync-clause-image : goal.returns-in_err-sync-clause-image
returns-in_err-sync-clause-image g c f told =
    let sound = subst (λ (v : DiskView). IsSound v.state) c.self.view_is c.self.invariant.sound in
    let its = ap (λ (v : DiskView). v.spot) c.self.view_is in
    let stays = subst (λ (s : Spot). (g.H.Home.seen c.sync.new.self).file s ≡ (g.H.Home.seen c.args.home.now).file s) its c.in_err-sync.ensures.stays in
    untouched_image c.args.self.now.state sound ((g.H.Home.seen c.args.home.now).file c.args.self.now.spot) c.requires.agrees.told f (sym stays ∙ told)

pub returns-clause-image : goal.returns-clause-image
returns-clause-image g c =
    let sound = subst (λ (v : DiskView). IsSound v.state) c.self.view_is c.self.invariant.sound in
    let its = ap (λ (v : DiskView). v.spot) c.self.view_is in
    let changed = subst (λ (s : Spot). (g.H.Home.seen c.sync.new.self).file s ≡ option_map cleaned ((g.H.Home.seen c.args.home.now).file s)) its c.in_ok-sync.ensures.cleaned in
    cleaned_image c.args.self.now.state sound ((g.H.Home.seen c.args.home.now).file c.args.self.now.spot) c.requires.agrees.told ((g.H.Home.seen c.sync.new.self).file c.args.self.now.spot) changed

pub leave-requires-clause-reach : goal.leave-requires-clause-reach
leave-requires-clause-reach g c =
    let agrees = subst (λ (v : DiskView). Agrees (g.H.Home.seen c.args.home.now) v.spot (read_of v.state)) (sym c.self.view_is) c.requires.agrees in
    stable_reached (state_of c.self.inside.bytes.items (entries c.self.inside.first c.self.inside.touched.items)) c.self.invariant.sound ((g.H.Home.seen c.args.home.now).reach c.self.inside.spot) agrees.room

pub leave-requires-clause-begins : goal.leave-requires-clause-begins
leave-requires-clause-begins g c =
    let agrees = subst (λ (v : DiskView). Agrees (g.H.Home.seen c.args.home.now) v.spot (read_of v.state)) (sym c.self.view_is) c.requires.agrees in
    begins_reached (state_of c.self.inside.bytes.items (entries c.self.inside.first c.self.inside.touched.items)) c.self.invariant.sound ((g.H.Home.seen c.args.home.now).reach c.self.inside.spot) agrees.room

pub leave-requires-clause-images : goal.leave-requires-clause-images
leave-requires-clause-images g c =
    let agrees = subst (λ (v : DiskView). Agrees (g.H.Home.seen c.args.home.now) v.spot (read_of v.state)) (sym c.self.view_is) c.requires.agrees in
    untouched_image (state_of c.self.inside.bytes.items (entries c.self.inside.first c.self.inside.touched.items)) c.self.invariant.sound ((g.H.Home.seen c.args.home.now).file c.self.inside.spot) agrees.told

pub returns-in_err-leave-clause-image : goal.returns-in_err-leave-clause-image
returns-in_err-leave-clause-image g c = subst (λ (v : DiskView). IsImageIn v.state ((g.H.Home.seen c.leave.new.home).file v.spot)) c.self.view_is c.leave.ensures.image

pub returns-in_err-leave-clause-faults : goal.returns-in_err-leave-clause-faults
returns-in_err-leave-clause-faults g c =
    let agrees = subst (λ (v : DiskView). Agrees (g.H.Home.seen c.args.home.now) v.spot (read_of v.state)) (sym c.self.view_is) c.requires.agrees in
    let ends = ends_reached (state_of c.self.inside.bytes.items (entries c.self.inside.first c.self.inside.touched.items)) c.self.invariant.sound ((g.H.Home.seen c.args.home.now).reach c.self.inside.spot) agrees.room in
    device_of_sync c.from_residual.result (device_only c.from_residual.result c.in_err-leave.field-0.0 c.from_residual.ensures.1 (λ is. c.leave.ensures.memory ends (c.in_err-leave.was ∙ ap Err is)))
