use Rattle.std.proofs.Common.{◌≡◌, ◌∙◌, ◌+◌, ◌≤◌, sym, ap, subst, length, List, ℕ, arith}
use Rattle.std.specs.Prelude.{option_map, None, max}
use Rattle.co_outside.specs.declared.spot.Spot.{Spot}
use Rattle.co_outside.specs.Home.{written, IsTornFile, Agrees}
use Rattle.co_disk.specs.DiskModel.{DiskState, IsSound, read_of, after_write}
use Rattle.co_disk.specs.DiskView.{DiskView}
use Rattle.co_disk.proofs.Gets.{length_overlaid}
use Rattle.co_disk.proofs.Images.{read_more}
use Rattle.co_disk.specs.Homes.{IsImageIn}
use Rattle.co_disk.specs.Laying.{BeginWithin}
use Rattle.co_disk.specs.Kept.{entries, state_of}
use Rattle.co_disk.proofs.Leaving.{stable_reached, begins_written}
use Rattle.co_disk.proofs.Writes.{not_written, torn_written, written_told, written_image}
use Rattle.co_disk.proofs.disk.Disk.write.Goals as goal

pub returns-in_err-note-clause-image : goal.returns-in_err-note-clause-image
returns-in_err-note-clause-image g c =
    let sound = subst (λ (v : DiskView). IsSound v.state) c.self.view_is c.self.invariant.sound in
    not_written c.args.self.now.state sound ((g.H.Home.seen c.args.home.now).file c.args.self.now.spot) c.requires.agrees.told c.args.at c.args.piece.now c.requires.at

pub returns-in_err-write_at-clause-image : goal.returns-in_err-write_at-clause-image
returns-in_err-write_at-clause-image g c =
    let sound = subst (λ (v : DiskView). IsSound v.state) c.self.view_is c.self.invariant.sound in
    let its = ap (λ (v : DiskView). v.spot) c.self.view_is in
    let torn = subst (λ (s : Spot). IsTornFile c.args.at (length c.args.piece.now) ((g.H.Home.seen c.args.home.now).file s) ((g.H.Home.seen c.write_at.new.self).file s)) its c.in_err-write_at.ensures.torn in
    let untold = subst (λ (s : Spot). (g.H.Home.seen c.args.home.now).file s ≡ None → (g.H.Home.seen c.write_at.new.self).file s ≡ None) its c.in_err-write_at.ensures.untold in
    torn_written c.args.self.now.state sound ((g.H.Home.seen c.args.home.now).file c.args.self.now.spot) c.requires.agrees.told c.args.at c.args.piece.now c.requires.at ((g.H.Home.seen c.write_at.new.self).file c.args.self.now.spot) torn untold

pub returns-clause-agrees : goal.returns-clause-agrees
returns-clause-agrees g c =
    let s = c.args.self.now.state in
    let piece = c.args.piece.now in
    let sound = subst (λ (v : DiskView). IsSound v.state) c.self.view_is c.self.invariant.sound in
    let its = ap (λ (v : DiskView). v.spot) c.self.view_is in
    let changed = subst (λ (s : Spot). (g.H.Home.seen c.write_at.new.self).file s ≡ option_map (written c.args.at c.args.piece.now) ((g.H.Home.seen c.args.home.now).file s)) its c.in_ok-write_at.ensures.written in
    let reached = subst (λ (s : Spot). max ((g.H.Home.seen c.args.home.now).reach s) (c.args.at + length c.args.piece.now) ≤ (g.H.Home.seen c.write_at.new.self).reach s) its c.in_ok-write_at.ensures.reach in
    let noted = c.in_ok-note.ensures.noted ∙ ap (λ (v : DiskView). after_write v.state c.args.at c.args.piece.now) c.self.view_is in
    let read = ap (λ (d : DiskState). read_of d) noted in
    let long : length (read_of (after_write s c.args.at piece)) ≡ max (length (read_of s)) (c.args.at + length piece) = ap (λ (l : List ℕ). length l) (read_more s c.args.at piece) ∙ length_overlaid (read_of s) c.args.at piece c.requires.at in
    record {
      told = λ f told. written_told s sound ((g.H.Home.seen c.args.home.now).file c.args.self.now.spot) c.requires.agrees.told c.args.at piece c.requires.at ((g.H.Home.seen c.write_at.new.self).file c.args.self.now.spot) changed f told ∙ sym read;
      room = omega (arith, ap (λ (l : List ℕ). length l) read, long, reached, c.requires.agrees.room);
    }

pub returns-clause-image : goal.returns-clause-image
returns-clause-image g c =
    let sound = subst (λ (v : DiskView). IsSound v.state) c.self.view_is c.self.invariant.sound in
    let its = ap (λ (v : DiskView). v.spot) c.self.view_is in
    let changed = subst (λ (s : Spot). (g.H.Home.seen c.write_at.new.self).file s ≡ option_map (written c.args.at c.args.piece.now) ((g.H.Home.seen c.args.home.now).file s)) its c.in_ok-write_at.ensures.written in
    written_image c.args.self.now.state sound ((g.H.Home.seen c.args.home.now).file c.args.self.now.spot) c.requires.agrees.told c.args.at c.args.piece.now c.requires.at ((g.H.Home.seen c.write_at.new.self).file c.args.self.now.spot) changed

pub leave-requires-clause-reach : goal.leave-requires-clause-reach
leave-requires-clause-reach g c =
    let s = state_of c.self.inside.bytes.items (entries c.self.inside.first c.self.inside.touched.items) in
    let agrees = subst (λ (v : DiskView). Agrees (g.H.Home.seen c.args.home.now) v.spot (read_of v.state)) (sym c.self.view_is) c.requires.agrees in
    rw (ap (λ (d : DiskState). d.stable) c.in_ok-note.ensures.noted) (stable_reached s c.self.invariant.sound ((g.H.Home.seen c.args.home.now).reach c.self.inside.spot) agrees.room)

pub leave-requires-clause-begins : goal.leave-requires-clause-begins
leave-requires-clause-begins g c =
    let s = state_of c.self.inside.bytes.items (entries c.self.inside.first c.self.inside.touched.items) in
    let agrees = subst (λ (v : DiskView). Agrees (g.H.Home.seen c.args.home.now) v.spot (read_of v.state)) (sym c.self.view_is) c.requires.agrees in
    let within = subst (λ (v : DiskView). c.args.at ≤ length (read_of v.state)) (sym c.self.view_is) c.requires.at in
    subst (λ (d : DiskState). BeginWithin ((g.H.Home.seen c.args.home.now).reach c.self.inside.spot) d.pending) (sym c.in_ok-note.ensures.noted) (begins_written s c.self.invariant.sound ((g.H.Home.seen c.args.home.now).reach c.self.inside.spot) agrees.room c.args.at c.args.piece.now within)

pub leave-requires-clause-images : goal.leave-requires-clause-images
leave-requires-clause-images g c =
    let s = state_of c.self.inside.bytes.items (entries c.self.inside.first c.self.inside.touched.items) in
    let agrees = subst (λ (v : DiskView). Agrees (g.H.Home.seen c.args.home.now) v.spot (read_of v.state)) (sym c.self.view_is) c.requires.agrees in
    let within = subst (λ (v : DiskView). c.args.at ≤ length (read_of v.state)) (sym c.self.view_is) c.requires.at in
    subst (λ (d : DiskState). IsImageIn d ((g.H.Home.seen c.args.home.now).file c.self.inside.spot)) (sym c.in_ok-note.ensures.noted) (not_written s c.self.invariant.sound ((g.H.Home.seen c.args.home.now).file c.self.inside.spot) agrees.told c.args.at c.args.piece.now within)

pub returns-in_err-leave-clause-image : goal.returns-in_err-leave-clause-image
returns-in_err-leave-clause-image g c =
    let noted = c.in_ok-note.ensures.noted ∙ ap (λ (v : DiskView). after_write v.state c.args.at c.args.piece.now) c.self.view_is in
    let its = ap (λ (v : DiskView). v.spot) c.self.view_is in
    subst (λ (s : Spot). IsImageIn (after_write c.args.self.now.state c.args.at c.args.piece.now) ((g.H.Home.seen c.leave.new.home).file s)) its (subst (λ (d : DiskState). IsImageIn d ((g.H.Home.seen c.leave.new.home).file c.self.inside.spot)) noted c.leave.ensures.image)
