-- Faults that a home gave.
use Rattle.std.proofs.Common.{◌≡◌, refl, sym, subst, Result, Ok, Err, IfErr, IsErrAnd}
use Rattle.co_outside.specs.declared.home.HomeFault.{HomeFault}
use Rattle.co_outside.specs.declared.home.HomeFault.TheVariants as home
use Rattle.co_disk.specs.declared.fault.DiskFault.{DiskFault}
use Rattle.co_disk.specs.declared.fault.DiskFault.TheVariants.{Device}
use Rattle.co_disk.specs.Faults.{fault_from, IsOfSync}

-- a fault that is not want of memory is one of the device
pub device_only : {T : Type 0} (r : Result T DiskFault) (from : HomeFault) → IsErrAnd r (λ e. e ≡ fault_from from) → (from ≡ home.Memory → ⊥) → IfErr r (λ e. e ≡ Device)
device_only (Ok x) from is safe = tt
device_only (Err e) home.Failed is safe = is
device_only (Err e) home.Memory is safe = absurd (safe refl)

pub device_of_sync : {T : Type 0} (r : Result T DiskFault) → IfErr r (λ e. e ≡ Device) → IfErr r IsOfSync
device_of_sync (Ok x) is = tt
device_of_sync (Err e) is = subst IsOfSync (sym is) tt
