use Rattle.std.proofs.Common.{◌≤◌, ℕ, List, length, map, ap, sym, subst, arith}
use Rattle.co_disk.specs.declared.touched.Touched.{Touched}
use Rattle.co_disk.specs.DiskModel.{IsChosen}
use Rattle.co_disk.specs.DiskView.{DiskView}
use Rattle.co_disk.specs.Homes.{IsImageIn}
use Rattle.co_disk.specs.Kept.{entries, entry_of, state_of, IsKept}
use Rattle.co_disk.specs.Laying.{BeginWithin}
use Rattle.co_disk.proofs.Leaving.{to_lay, kept_after}
use Rattle.co_disk.proofs.disk.Disk.leave.Goals as goal

pub lay_image-laid-requires : goal.lay_image-laid-requires
lay_image-laid-requires g c =
    let es = entries c.self.inside.first c.self.inside.touched.items in
    let chosen = subst (λ (ts : List Touched). IsChosen (state_of c.self.inside.bytes.items (entries c.self.inside.first ts)) c.args.leaves.now c.choose.new.bytes.items) c.deref.ensures.value c.choose.ensures in
    let reach = subst (λ (v : DiskView). length v.state.stable ≤ (g.H.Home.seen c.args.home.now).reach v.spot) (sym c.self.view_is) c.requires.reach in
    let begins = subst (λ (v : DiskView). BeginWithin ((g.H.Home.seen c.args.home.now).reach v.spot) v.state.pending) (sym c.self.view_is) c.requires.begins in
    let images = subst (λ (v : DiskView). IsImageIn v.state ((g.H.Home.seen c.args.home.now).file v.spot)) (sym c.self.view_is) c.requires.images in
    let ready = to_lay c.self.inside.bytes.items c.choose.new.bytes.items es c.args.leaves.now ((g.H.Home.seen c.args.home.now).file c.self.inside.spot) ((g.H.Home.seen c.args.home.now).reach c.self.inside.spot) c.self.invariant chosen reach begins images in
    record { ready = (state_of c.self.inside.bytes.items es, rw (c.deref-2.ensures.value, c.deref-3.ensures.value) ready) }

pub invariant_of-self : goal.invariant_of-self
invariant_of-self g c =
    let es = entries c.self.inside.first c.self.inside.touched.items in
    let chosen = subst (λ (ts : List Touched). IsChosen (state_of c.self.inside.bytes.items (entries c.self.inside.first ts)) c.args.leaves.now c.choose.new.bytes.items) c.deref.ensures.value c.choose.ensures in
    rw c.clear.ensures.items (kept_after c.self.inside.bytes.items c.choose.new.bytes.items es c.args.leaves.now c.self.invariant chosen)

pub returns-clause-image : goal.returns-clause-image
returns-clause-image g c =
    let es = entries c.self.inside.first c.self.inside.touched.items in
    let chosen = subst (λ (ts : List Touched). IsChosen (state_of c.self.inside.bytes.items (entries c.self.inside.first ts)) c.args.leaves.now c.choose.new.bytes.items) c.deref.ensures.value c.choose.ensures in
    let reach = subst (λ (v : DiskView). length v.state.stable ≤ (g.H.Home.seen c.args.home.now).reach v.spot) (sym c.self.view_is) c.requires.reach in
    let begins = subst (λ (v : DiskView). BeginWithin ((g.H.Home.seen c.args.home.now).reach v.spot) v.state.pending) (sym c.self.view_is) c.requires.begins in
    let images = subst (λ (v : DiskView). IsImageIn v.state ((g.H.Home.seen c.args.home.now).file v.spot)) (sym c.self.view_is) c.requires.images in
    let ready = to_lay c.self.inside.bytes.items c.choose.new.bytes.items es c.args.leaves.now ((g.H.Home.seen c.args.home.now).file c.self.inside.spot) ((g.H.Home.seen c.args.home.now).reach c.self.inside.spot) c.self.invariant chosen reach begins images in
    let after = c.lay_image-laid.ensures.images (state_of c.self.inside.bytes.items es) (rw (c.deref-2.ensures.value, c.deref-3.ensures.value) ready) in
    subst (λ (v : DiskView). IsImageIn v.state ((g.H.Home.seen c.lay_image-laid.new.home).file v.spot)) c.self.view_is after

pub returns-clause-short : goal.returns-clause-short
returns-clause-short g c =
    let es = entries c.self.inside.first c.self.inside.touched.items in
    let chosen = subst (λ (ts : List Touched). IsChosen (state_of c.self.inside.bytes.items (entries c.self.inside.first ts)) c.args.leaves.now c.choose.new.bytes.items) c.deref.ensures.value c.choose.ensures in
    let kept : IsKept c.choose.new.bytes.items (map entry_of c.clear.new.self.items) = rw c.clear.ensures.items (kept_after c.self.inside.bytes.items c.choose.new.bytes.items es c.args.leaves.now c.self.invariant chosen) in
    omega (arith, ap (λ (b : List ℕ). length b) kept.read, kept.short)
