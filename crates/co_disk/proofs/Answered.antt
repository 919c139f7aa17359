-- The answers of calls by their cases, from what is so of each, and back.
use Rattle.std.proofs.Common.{◌≡◌, ◌≤◌, ◌<◌, List, length, ℕ, refl, sym, subst, IsErrAnd, Result, Ok, Err, Some, None, IfOk, IfErr, OnOk, IsErrOf}
use Rattle.co_base.specs.Limits.{most_log_bytes}
use Rattle.co_outside.specs.declared.spot.Spot.{Spot}
use Rattle.co_outside.specs.Home.{File, HomeView, Agrees, IsClean, HasFailed}
use Rattle.co_disk.specs.declared.fault.DiskFault.{DiskFault}
use Rattle.co_disk.specs.declared.fault.DiskFault.TheVariants.{Device, Stopped, Differs, Long, Memory}
use Rattle.co_disk.specs.Calls.{IsOpened, IsAttachAnswer, IsPassed, IsLeftOf, IsCallAnswer, IsCutAnswer, IsRereadAnswer}
use Rattle.co_disk.specs.DiskModel.{DiskState, read_of, stable_disk}
use Rattle.co_disk.specs.DiskView.{DiskView}
use Rattle.co_disk.specs.Faults.{IsOfAttach, IsOfWrite, IsOfSync, IsOfReread}
use Rattle.co_disk.specs.Stops.{stop_here, after_call}

pub attach_answered : (gives : List ℕ → Type 0) (spot : Spot) (old new : HomeView) (r : Result DiskView DiskFault) → IfOk r (IsOpened gives spot new) → IfErr r (IsOfAttach gives)
    → (IsErrOf r Long → (f : File) → old.file spot ≡ Some f → most_log_bytes < length f.bytes) → (IsErrOf r Device → HasFailed spot old new) → ((IsErrOf r Device → ⊥) → new.faults ≡ old.faults)
    → IsAttachAnswer gives spot old new r
attach_answered gives spot old new (Ok disk) opened may long failed quiet = (opened, quiet (λ is. cc))
attach_answered gives spot old new (Err Device) opened may long failed quiet = failed refl
attach_answered gives spot old new (Err (Stopped call)) opened may long failed quiet = may
attach_answered gives spot old new (Err (Differs at kept read)) opened may long failed quiet = may
attach_answered gives spot old new (Err Long) opened may long failed quiet = (record { bytes = may.0; given = may.1; long = may.2; told = long refl }, quiet (λ is. cc))
attach_answered gives spot old new (Err Memory) opened may long failed quiet = quiet (λ is. cc)

pub opened_if : (gives : List ℕ → Type 0) (spot : Spot) (home : HomeView) (r : Result DiskView DiskFault) → IfOk r (λ d. d.spot ≡ spot) → IfOk r (λ d. gives d.state.stable × (d.state ≡ stable_disk d.state.stable)) → IfOk r (λ d. length d.state.stable ≤ most_log_bytes)
    → IfOk r (λ d. d.armed ≡ None) → IfOk r (λ d. Agrees home spot d.state.stable) → IfOk r (IsOpened gives spot home)
opened_if gives spot home (Ok disk) its state short disarmed agrees = record { its_spot = its; given = state.0; still = state.1; short = short; disarmed = disarmed; agrees = agrees }
opened_if gives spot home (Err e) its state short disarmed agrees = tt

pub passed_if : (done : DiskState) (disk after : DiskView) (home : HomeView) (r : Result (Unit {0}) DiskFault) → OnOk r (after.state ≡ done) → OnOk r (stop_here disk.armed ≡ None) → OnOk r (after.armed ≡ after_call disk.armed)
    → OnOk r (Agrees home disk.spot (read_of after.state)) → OnOk r (IsPassed done disk after home)
passed_if done disk after home (Ok it) state passed counted agrees = record { state = state; passed = passed; counted = counted; agrees = agrees }
passed_if done disk after home (Err e) state passed counted agrees = tt

pub call_answered : (done pending : DiskState) (memory : Type 0) (disk after : DiskView) (old new : HomeView) (r : Result (Unit {0}) DiskFault) → OnOk r (IsPassed done disk after new)
    → ((call : ℕ) → IsErrOf r (Stopped call) → IsLeftOf pending call disk after new) → IfErr r IsOfWrite → (IsErrOf r Memory → memory)
    → (IsErrOf r Device → HasFailed disk.spot old new) → ((IsErrOf r Device → ⊥) → new.faults ≡ old.faults) → IsCallAnswer done pending memory disk after old new r
call_answered done pending memory disk after old new (Ok it) passed left may wants failed quiet = (passed, quiet (λ is. cc))
call_answered done pending memory disk after old new (Err Device) passed left may wants failed quiet = failed refl
call_answered done pending memory disk after old new (Err (Stopped call)) passed left may wants failed quiet = (left call refl, quiet (λ is. cc))
call_answered done pending memory disk after old new (Err (Differs at kept read)) passed left may wants failed quiet = may
call_answered done pending memory disk after old new (Err Long) passed left may wants failed quiet = may
call_answered done pending memory disk after old new (Err Memory) passed left may wants failed quiet = (wants refl, quiet (λ is. cc))

-- a sync never wants memory
pub sync_has_memory : (r : Result (Unit {0}) DiskFault) → IfErr r IsOfSync → IsErrOf r Memory → ⊥
sync_has_memory (Ok it) may is = cc
sync_has_memory (Err Device) may is = cc
sync_has_memory (Err (Stopped call)) may is = cc
sync_has_memory (Err (Differs at kept read)) may is = may
sync_has_memory (Err Long) may is = may
sync_has_memory (Err Memory) may is = may

-- a fault of a sync is one of a write
pub write_of_sync : (r : Result (Unit {0}) DiskFault) → IfErr r IsOfSync → IfErr r IsOfWrite
write_of_sync (Ok it) may = tt
write_of_sync (Err Device) may = tt
write_of_sync (Err (Stopped call)) may = tt
write_of_sync (Err (Differs at kept read)) may = may
write_of_sync (Err Long) may = may
write_of_sync (Err Memory) may = tt

pub cut_answered : (disk after : DiskView) (old new : HomeView) (r : Result (Unit {0}) DiskFault) → OnOk r (Agrees new disk.spot (read_of after.state)) → OnOk r (IsClean new disk.spot) → IfErr r (λ e. e ≡ Device)
    → (IsErrOf r Device → HasFailed disk.spot old new) → ((IsErrOf r Device → ⊥) → new.faults ≡ old.faults) → IsCutAnswer disk after old new r
cut_answered disk after old new (Ok it) agrees clean may failed quiet = (agrees, clean, quiet (λ is. cc))
cut_answered disk after old new (Err Device) agrees clean may failed quiet = failed refl
cut_answered disk after old new (Err (Stopped call)) agrees clean may failed quiet = cc
cut_answered disk after old new (Err (Differs at kept read)) agrees clean may failed quiet = cc
cut_answered disk after old new (Err Long) agrees clean may failed quiet = cc
cut_answered disk after old new (Err Memory) agrees clean may failed quiet = cc

pub reread_answered : (gives : List ℕ → Type 0) (disk : DiskView) (old new : HomeView) (r : Result (Unit {0}) DiskFault) → OnOk r (gives (read_of disk.state)) → IfErr r (IsOfReread gives (read_of disk.state) (old.file disk.spot))
    → (IsErrOf r Device → HasFailed disk.spot old new) → ((IsErrOf r Device → ⊥) → new.faults ≡ old.faults) → IsRereadAnswer gives disk old new r
reread_answered gives disk old new (Ok it) same may failed quiet = (same, quiet (λ is. cc))
reread_answered gives disk old new (Err Device) same may failed quiet = failed refl
reread_answered gives disk old new (Err (Stopped call)) same may failed quiet = may
reread_answered gives disk old new (Err (Differs at kept read)) same may failed quiet = (may, quiet (λ is. cc))
reread_answered gives disk old new (Err Long) same may failed quiet = may
reread_answered gives disk old new (Err Memory) same may failed quiet = quiet (λ is. cc)

-- what is so of the answer of a caller that a device call ended in its fault
pub record HasEnded {A : Type 0} (pending : DiskState) (memory : Type 0) (disk after : DiskView) (old new : HomeView) (result : Result A DiskFault) : Type 0 where
  pub stopped : (call : ℕ) → IsErrOf result (Stopped call) → IsLeftOf pending call disk after new
  pub faults : IfErr result IsOfWrite
  pub wants : IsErrOf result Memory → memory
  pub device : IsErrOf result Device → HasFailed disk.spot old new
  pub quiet : (IsErrOf result Device → ⊥) → new.faults ≡ old.faults

fault_ended : {A : Type 0} (done pending : DiskState) (memory : Type 0) (disk after : DiskView) (old new : HomeView) (fault : DiskFault) → IsCallAnswer done pending memory disk after old new (Err fault) → HasEnded {A = A} pending memory disk after old new (Err fault)
fault_ended done pending memory disk after old new Device is = record { stopped = λ call no. cc; faults = tt; wants = λ no. cc; device = λ _. is; quiet = λ no. absurd (no refl) }
fault_ended done pending memory disk after old new (Stopped call) is = record { stopped = λ its same. subst (λ (n : ℕ). IsLeftOf pending n disk after new) (let it : call ≡ its = cc in it) is.0; faults = tt; wants = λ no. cc; device = λ no. cc; quiet = λ _. is.1 }
fault_ended done pending memory disk after old new (Differs at kept read) is = absurd is
fault_ended done pending memory disk after old new Long is = absurd is
fault_ended done pending memory disk after old new Memory is = record { stopped = λ call no. cc; faults = tt; wants = λ _. is.0; device = λ no. cc; quiet = λ _. is.1 }

pub call_ended : {A : Type 0} (done pending : DiskState) (memory : Type 0) (disk after : DiskView) (old new : HomeView) (fault : DiskFault) → IsCallAnswer done pending memory disk after old new (Err fault)
    → (r : Result A DiskFault) → IsErrAnd r (λ e. e ≡ fault) → HasEnded pending memory disk after old new r
call_ended {A} done pending memory disk after old new fault is (Ok it) same = absurd same
call_ended {A} done pending memory disk after old new fault is (Err e) same = subst (λ (x : DiskFault). HasEnded {A = A} pending memory disk after old new (Err x)) (sym same) (fault_ended done pending memory disk after old new fault is)
