-- Why a file was not read again.
use Rattle.std.specs.Prelude.{◌+◌, ℕ, ◌≡◌, ◌⊎◌, List, Option}
use Rattle.co_base.specs.Limits.{most_log_bytes}
use Rattle.co_outside.specs.Home.{File, HomeView, RestStays}
use Rattle.co_outside.specs.declared.spot.Spot.{Spot}
use Rattle.co_disk.specs.DiskModel.{read_of}
use Rattle.co_disk.specs.Faults.{IsNamed}
use Rattle.co_disk.specs.DiskView.{DiskView}
use Rattle.co_log.specs.LogView.{LogView}
use Rattle.co_log.specs.declared.fault.LogFault.{LogFault}
use Rattle.co_log.specs.declared.fault.LogFault.TheVariants.{Device, Stopped, Bad, Differs, Full, InUse, Memory}

-- What differs is named by the first place at which the bytes that were read are not those that are kept, with both
-- bytes there, and the home does not tell the file.
abbrev pub IsOfReread : (List ℕ → Type 0) → Option File → DiskView → LogFault → Type 0
IsOfReread gives file disk (Device spot) = spot ≡ disk.spot
IsOfReread gives file disk (Stopped call stable marks) = ⊥
IsOfReread gives file disk (Bad spot at) = ⊥
IsOfReread gives file disk (Differs spot at kept read) = (spot ≡ disk.spot) × ((bytes : List ℕ) × gives bytes × IsNamed (read_of disk.state) bytes file at kept read)
IsOfReread gives file disk (Full spot) = ⊥
IsOfReread gives file disk (InUse spot) = ⊥
IsOfReread gives file disk Memory = Unit {0}

-- The file of the current disk was read, and then that of the spare was not.
pub record IsSpareUnread {H : Type 0} (gives : H → Spot → ℕ → List ℕ → Type 0) (seen : H → HomeView) (log : LogView) (old : H) (e : LogFault) : Type 0 where
  pub between : H
  pub current : gives old log.current.spot (most_log_bytes + 1) (read_of log.current.state)
  pub first : RestStays log.current.spot (seen old) (seen between)
  pub fault : IsOfReread (gives between log.spare.spot (most_log_bytes + 1)) ((seen old).file log.spare.spot) log.spare e

-- why a log was not read again
abbrev pub IsOfReattach : {H : Type 0} → (H → Spot → ℕ → List ℕ → Type 0) → (H → HomeView) → LogView → H → LogFault → Type 0
IsOfReattach gives seen log old e =
    IsOfReread (gives old log.current.spot (most_log_bytes + 1)) ((seen old).file log.current.spot) log.current e ⊎ IsSpareUnread gives seen log old e

-- Both files were read, one after the other, and each gave what the log keeps of it.
pub record AreReread {H : Type 0} (gives : H → Spot → ℕ → List ℕ → Type 0) (seen : H → HomeView) (log : LogView) (old new : H) : Type 0 where
  pub between : H
  pub current : gives old log.current.spot (most_log_bytes + 1) (read_of log.current.state)
  pub first : RestStays log.current.spot (seen old) (seen between)
  pub spare : gives between log.spare.spot (most_log_bytes + 1) (read_of log.spare.state)
  pub second : RestStays log.spare.spot (seen between) (seen new)
