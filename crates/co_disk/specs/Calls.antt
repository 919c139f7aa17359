-- The calls of a disk over a home: what each leaves of the disk and of the home, by its answer. The count of the home's faults stands but where the device failed.
use Rattle.std.specs.Prelude.{ℕ, ◌+◌, ◌≡◌, ◌≤◌, ◌<◌, List, length, Some, None, [], Result, Ok, Err}
use Rattle.co_base.specs.Limits.{most_log_bytes}
use Rattle.co_base.specs.declared.leaves.Leaves.{Leaves}
use Rattle.co_outside.specs.declared.spot.Spot.{Spot}
use Rattle.co_outside.specs.Home.{File, HomeView, Agrees, IsClean, RestStays, HasFailed}
use Rattle.co_disk.specs.declared.fault.DiskFault.{DiskFault}
use Rattle.co_disk.specs.declared.fault.DiskFault.TheVariants.{Device, Stopped, Differs, Long, Memory}
use Rattle.co_disk.specs.DiskModel.{DiskState, read_of, stable_disk}
use Rattle.co_disk.specs.DiskView.{DiskView}
use Rattle.co_disk.specs.Faults.{IsNamed}
use Rattle.co_disk.specs.Homes.{IsImageIn}
use Rattle.co_disk.specs.Stops.{stop_here, after_call, IsLeft, IsStopped}

-- the disk of a file that was read: all its bytes are stable, and nothing is armed; `gives` says what a read of it may give
pub record IsOpened (gives : List ℕ → Type 0) (spot : Spot) (home : HomeView) (disk : DiskView) : Type 0 where
  pub its_spot : disk.spot ≡ spot
  pub given : gives disk.state.stable
  pub still : disk.state ≡ stable_disk disk.state.stable
  pub short : length disk.state.stable ≤ most_log_bytes
  pub disarmed : disk.armed ≡ None
  pub agrees : Agrees home spot disk.state.stable

-- a file of which more than the most bytes were read has more, where the home tells it
pub record IsLongFile (gives : List ℕ → Type 0) (spot : Spot) (home : HomeView) : Type 0 where
  pub bytes : List ℕ
  pub given : gives bytes
  pub long : most_log_bytes < length bytes
  pub told : (f : File) → home.file spot ≡ Some f → most_log_bytes < length f.bytes

-- what the attaching of the disk of a file answers
abbrev pub IsAttachAnswer : (List ℕ → Type 0) → Spot → HomeView → HomeView → Result DiskView DiskFault → Type 0
IsAttachAnswer gives spot old new (Ok disk) = IsOpened gives spot new disk × (new.faults ≡ old.faults)
IsAttachAnswer gives spot old new (Err Device) = HasFailed spot old new
IsAttachAnswer gives spot old new (Err (Stopped call)) = ⊥
IsAttachAnswer gives spot old new (Err (Differs at kept read)) = ⊥
IsAttachAnswer gives spot old new (Err Long) = IsLongFile gives spot old × (new.faults ≡ old.faults)
IsAttachAnswer gives spot old new (Err Memory) = new.faults ≡ old.faults

-- what the attaching of the disk of a file leaves and gives
pub record HasAttached (gives : List ℕ → Type 0) (spot : Spot) (old new : HomeView) (result : Result DiskView DiskFault) : Type 0 where
  pub answered : IsAttachAnswer gives spot old new result
  pub file : new.file spot ≡ old.file spot
  pub rest : RestStays spot old new

-- the disk after a device call that was done, which no armed stop reached
pub record IsPassed (done : DiskState) (disk after : DiskView) (home : HomeView) : Type 0 where
  pub state : after.state ≡ done
  pub passed : stop_here disk.armed ≡ None
  pub counted : after.armed ≡ after_call disk.armed
  pub agrees : Agrees home disk.spot (read_of after.state)

-- the disk after a device call that an armed stop reached, of which an image of `pending` was left
pub record IsLeftOf (pending : DiskState) (call : ℕ) (disk after : DiskView) (home : HomeView) : Type 0 where
  pub stopped : IsStopped disk.armed call pending after
  pub agrees : Agrees home disk.spot (read_of after.state)
  pub clean : IsClean home disk.spot

-- what a write of a piece asks: the home has the file of the disk, and the piece begins within it and ends within the most bytes of a file
pub record MayWrite (home : HomeView) (disk : DiskView) (at : ℕ) (piece : List ℕ) : Type 0 where
  pub agrees : Agrees home disk.spot (read_of disk.state)
  pub begins : at ≤ length (read_of disk.state)
  pub ends : at + length piece ≤ most_log_bytes

-- a write may want memory but where it replaces the one byte that is there, and nothing is pending
abbrev pub MayWant : DiskState → ℕ → List ℕ → Type 0
MayWant disk at piece = length piece ≡ 1 → at < length (read_of disk) → disk.pending ≡ [] → ⊥

-- what a device call answers; `memory` says when memory may have been wanting
abbrev pub IsCallAnswer : (done pending : DiskState) → Type 0 → DiskView → DiskView → HomeView → HomeView → Result (Unit {0}) DiskFault → Type 0
IsCallAnswer done pending memory disk after old new (Ok it) = IsPassed done disk after new × (new.faults ≡ old.faults)
IsCallAnswer done pending memory disk after old new (Err Device) = HasFailed disk.spot old new
IsCallAnswer done pending memory disk after old new (Err (Stopped call)) = IsLeftOf pending call disk after new × (new.faults ≡ old.faults)
IsCallAnswer done pending memory disk after old new (Err (Differs at kept read)) = ⊥
IsCallAnswer done pending memory disk after old new (Err Long) = ⊥
IsCallAnswer done pending memory disk after old new (Err Memory) = memory × (new.faults ≡ old.faults)

-- what a device call leaves: after Ok the disk is `done`; `pending` is the disk of which a stop in this call leaves an image
pub record HasCalled (done pending : DiskState) (memory : Type 0) (disk after : DiskView) (old new : HomeView) (result : Result (Unit {0}) DiskFault) : Type 0 where
  pub spot : after.spot ≡ disk.spot
  pub answered : IsCallAnswer done pending memory disk after old new result
  pub image : IsImageIn pending (new.file disk.spot)
  pub short : length (read_of after.state) ≤ most_log_bytes
  pub rest : RestStays disk.spot old new

-- what a crash answers: only the home may fail in it
abbrev pub IsCutAnswer : DiskView → DiskView → HomeView → HomeView → Result (Unit {0}) DiskFault → Type 0
IsCutAnswer disk after old new (Ok it) = Agrees new disk.spot (read_of after.state) × IsClean new disk.spot × (new.faults ≡ old.faults)
IsCutAnswer disk after old new (Err Device) = HasFailed disk.spot old new
IsCutAnswer disk after old new (Err (Stopped call)) = ⊥
IsCutAnswer disk after old new (Err (Differs at kept read)) = ⊥
IsCutAnswer disk after old new (Err Long) = ⊥
IsCutAnswer disk after old new (Err Memory) = ⊥

-- what a crash leaves that has this image
pub record HasCut (leaves : Leaves) (disk after : DiskView) (old new : HomeView) (result : Result (Unit {0}) DiskFault) : Type 0 where
  pub spot : after.spot ≡ disk.spot
  pub left : IsLeft disk.state leaves after.state
  pub disarmed : after.armed ≡ None
  pub answered : IsCutAnswer disk after old new result
  pub image : IsImageIn disk.state (new.file disk.spot)
  pub short : length (read_of after.state) ≤ most_log_bytes
  pub rest : RestStays disk.spot old new

-- what the reading again of a file answers; `gives` says what a read of it may give
abbrev pub IsRereadAnswer : (List ℕ → Type 0) → DiskView → HomeView → HomeView → Result (Unit {0}) DiskFault → Type 0
IsRereadAnswer gives disk old new (Ok it) = gives (read_of disk.state) × (new.faults ≡ old.faults)
IsRereadAnswer gives disk old new (Err Device) = HasFailed disk.spot old new
IsRereadAnswer gives disk old new (Err (Stopped call)) = ⊥
IsRereadAnswer gives disk old new (Err (Differs at kept read)) = ((bytes : List ℕ) × gives bytes × IsNamed (read_of disk.state) bytes (old.file disk.spot) at kept read) × (new.faults ≡ old.faults)
IsRereadAnswer gives disk old new (Err Long) = ⊥
IsRereadAnswer gives disk old new (Err Memory) = new.faults ≡ old.faults

-- what the reading again of its file leaves
pub record HasReread (gives : List ℕ → Type 0) (disk : DiskView) (old new : HomeView) (result : Result (Unit {0}) DiskFault) : Type 0 where
  pub answered : IsRereadAnswer gives disk old new result
  pub file : new.file disk.spot ≡ old.file disk.spot
  pub agrees : Agrees new disk.spot (read_of disk.state)
  pub rest : RestStays disk.spot old new
