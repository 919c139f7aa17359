use Rattle.std.proofs.Common.{◌≡◌, ◌<◌, ℕ, List, length, sym, subst, ◌∙◌}
use Rattle.std.specs.Prelude.{Some}
use Rattle.co_disk.proofs.Answered.{HasEnded, call_ended}
use Rattle.co_disk.specs.Calls.{MayWant}
use Rattle.co_disk.specs.DiskModel.{DiskState, after_write, after_sync, IsImage, read_of}
use Rattle.co_disk.specs.Stops.{IsStopped}
use Rattle.co_outside.specs.Faults.{HasRisen}
use Rattle.co_outside.specs.Home.{Agrees, IsClean}
use Rattle.co_outside.specs.declared.spot.Spot.{Spot}
use Rattle.co_log.proofs.Stops.{at_first, at_second}
use Rattle.co_log.proofs.Unmade.{read_stable}
use Rattle.co_log.proofs.writing.write_through.Given.{Over}
use Rattle.co_log.proofs.writing.write_through.Goals as goal

-- the write ended in its fault
module _ (g : Over) (c : goal.After-from_residual g) where
  write_ended : HasEnded (after_write c.args.disk.now.state c.args.at c.args.piece.now) (MayWant c.args.disk.now.state c.args.at c.args.piece.now) c.args.disk.now c.write_at.new.self
      (g.H.Home.seen c.args.home.now) (g.H.Home.seen c.write_at.new.home) c.from_residual.result
  write_ended =
      let disk = c.args.disk.now in
      let wrote = after_write disk.state c.args.at c.args.piece.now in
      call_ended wrote wrote (MayWant disk.state c.args.at c.args.piece.now) disk c.write_at.new.self (g.H.Home.seen c.args.home.now) (g.H.Home.seen c.write_at.new.home)
      c.in_err-write_at.field-0.0 c.in_err-write_at.ensures.answered c.from_residual.result c.from_residual.ensures.1

pub returns-in_err-write_at-clause-stopped : goal.returns-in_err-write_at-clause-stopped
returns-in_err-write_at-clause-stopped g c = λ call is.
    at_first c.args.disk.now.armed call (after_write c.args.disk.now.state c.args.at c.args.piece.now) c.write_at.new.self ((write_ended g c).stopped call is).stopped

pub returns-in_err-write_at-clause-left : goal.returns-in_err-write_at-clause-left
returns-in_err-write_at-clause-left g c = λ call is. let left = (write_ended g c).stopped call is in (left.agrees, left.clean)

pub returns-in_err-write_at-clause-faults : goal.returns-in_err-write_at-clause-faults
returns-in_err-write_at-clause-faults g c = (write_ended g c).faults

pub returns-in_err-write_at-clause-memory : goal.returns-in_err-write_at-clause-memory
returns-in_err-write_at-clause-memory g c = λ one within is.
    (write_ended g c).wants is one (subst (λ (b : List ℕ). c.args.at < length b) (sym (read_stable c.args.disk.now.state c.requires.stable)) within) c.requires.stable

pub returns-in_err-write_at-clause-device : goal.returns-in_err-write_at-clause-device
returns-in_err-write_at-clause-device g c = (write_ended g c).device

pub returns-in_err-write_at-clause-quiet : goal.returns-in_err-write_at-clause-quiet
returns-in_err-write_at-clause-quiet g c = (write_ended g c).quiet

-- the sync behind it did
module _ (g : Over) (c : goal.After-from_residual-in_err-sync g) where
  sync_ended : HasEnded c.write_at.new.self.state ⊥ c.write_at.new.self c.sync.new.self (g.H.Home.seen c.write_at.new.home) (g.H.Home.seen c.sync.new.home) c.from_residual-in_err-sync.result
  sync_ended =
      let mid = c.write_at.new.self in
      call_ended (after_sync mid.state) mid.state ⊥ mid c.sync.new.self (g.H.Home.seen c.write_at.new.home) (g.H.Home.seen c.sync.new.home)
      c.in_err-sync.field-0.0 c.in_err-sync.ensures.called.answered c.from_residual-in_err-sync.result c.from_residual-in_err-sync.ensures.1

pub returns-in_err-sync-clause-stopped : goal.returns-in_err-sync-clause-stopped
returns-in_err-sync-clause-stopped g c = λ call is.
    let mid = c.write_at.new.self in
    let passed = c.in_ok-write_at.ensures.answered.0 in
    at_second c.args.disk.now.armed mid.armed call (after_write c.args.disk.now.state c.args.at c.args.piece.now) c.sync.new.self passed.counted
    (subst (λ (d : DiskState). IsStopped mid.armed call d c.sync.new.self) passed.state ((sync_ended g c).stopped call is).stopped)

pub returns-in_err-sync-clause-left : goal.returns-in_err-sync-clause-left
returns-in_err-sync-clause-left g c = λ call is.
    let left = (sync_ended g c).stopped call is in
    let home = g.H.Home.seen c.sync.new.home in
    let its = c.in_ok-write_at.ensures.spot in
    (subst (λ (s : Spot). Agrees home s (read_of c.sync.new.self.state)) its left.agrees, subst (λ (s : Spot). IsClean home s) its left.clean)

pub returns-in_err-sync-clause-faults : goal.returns-in_err-sync-clause-faults
returns-in_err-sync-clause-faults g c = (sync_ended g c).faults

pub returns-in_err-sync-clause-memory : goal.returns-in_err-sync-clause-memory
returns-in_err-sync-clause-memory g c = λ one within is. (sync_ended g c).wants is

pub returns-in_err-sync-clause-device : goal.returns-in_err-sync-clause-device
returns-in_err-sync-clause-device g c = λ is.
    let failed = (sync_ended g c).device is in
    let passed = c.in_ok-write_at.ensures in
    record { count = subst (λ (n : ℕ). HasRisen n (g.H.Home.seen c.sync.new.home).faults) passed.answered.1 failed.count; named = failed.named ∙ passed.spot }

pub returns-in_err-sync-clause-quiet : goal.returns-in_err-sync-clause-quiet
returns-in_err-sync-clause-quiet g c = λ silent. (sync_ended g c).quiet silent ∙ c.in_ok-write_at.ensures.answered.1

pub returns-in_err-sync-clause-image : goal.returns-in_err-sync-clause-image
returns-in_err-sync-clause-image g c = λ f told.
    let w = c.in_ok-write_at.ensures in
    let told' = subst (λ (s : Spot). (g.H.Home.seen c.sync.new.home).file s ≡ Some f) (sym w.spot) told in
    subst (λ (d : DiskState). IsImage d f.bytes) w.answered.0.state (c.in_err-sync.ensures.called.image f told')
