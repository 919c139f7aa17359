use Rattle.std.proofs.Common.{◌+◌, ◌≡◌, ◌∙◌, List, ℕ, length, sym, ap, subst, arith}
use Rattle.std.specs.Prelude.{slice_get}
use Rattle.co_base.specs.Limits.{most_log_bytes}
use Rattle.co_outside.specs.declared.spot.Spot.{Spot}
use Rattle.co_disk.specs.DiskModel.{read_of}
use Rattle.co_disk.specs.DiskView.{DiskView}
use Rattle.co_disk.specs.Faults.{IsFirstDifference}
use Rattle.co_disk.proofs.Rereads.{never_told}
use Rattle.co_disk.proofs.disk.Disk.compare.Goals as goal

pub returns-clause-faults : goal.returns-clause-faults
returns-clause-faults g c =
    let kept = read_of c.args.self.now.state in
    let read = c.in_ok-read.read.items in
    let its = ap (λ (v : DiskView). v.spot) c.self.view_is in
    let gives = subst (λ (s : Spot). g.H.Home.gives c.args.home.now s (most_log_bytes + 1) read) its c.in_ok-read.ensures.bytes in
    let bytes : c.self.inside.bytes.items ≡ kept = sym c.self.invariant.read ∙ ap (λ (v : DiskView). read_of v.state) c.self.view_is in
    let differs = subst (λ (l : List ℕ). IsFirstDifference l read c.in-Some.place) (c.deref.ensures.value ∙ bytes) (subst (λ (l : List ℕ). IsFirstDifference c.deref.result.now l c.in-Some.place) c.deref-2.ensures.value c.in-Some.ensures) in (
      read,
      gives,
      record {
        first = differs;
        kept_is = c.byte_at.ensures ∙ ap (λ (l : List ℕ). slice_get l c.in-Some.place) (c.deref-in-Some.ensures.value ∙ bytes);
        read_is = c.byte_at-in-Some.ensures ∙ ap (λ (l : List ℕ). slice_get l c.in-Some.place) c.deref-in-Some-2.ensures.value;
        untold = never_told kept read (most_log_bytes + 1) ((g.H.Home.seen c.args.home.now).file c.args.self.now.spot) c.in-Some.place (omega (arith, c.self.invariant.short, ap length bytes)) c.requires.agrees.told (λ f told. g.met.H.Home.told_gives c.args.home.now c.args.self.now.spot (most_log_bytes + 1) read f told gives) differs;
      },
    )
