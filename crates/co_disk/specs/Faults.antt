-- The faults of a disk.
use Rattle.std.specs.Prelude.{ℕ, ◌≡◌, ◌≢◌, ◌<◌, List, length, Option, None, slice_get}
use Rattle.co_base.specs.Limits.{most_log_bytes}
use Rattle.co_outside.specs.Home.{File}
use Rattle.co_outside.specs.declared.home.HomeFault.{HomeFault}
use Rattle.co_outside.specs.declared.home.HomeFault.TheVariants as home
use Rattle.co_disk.specs.declared.fault.DiskFault.{DiskFault}
use Rattle.co_disk.specs.declared.fault.DiskFault.TheVariants.{Device, Memory, Stopped, Differs, Long}

-- what the fault of a home is for the disk
abbrev pub fault_from : HomeFault → DiskFault
fault_from home.Failed = Device
fault_from home.Memory = Memory

-- the first place where two lists of bytes differ, with what stands there
pub record IsFirstDifference (kept read : List ℕ) (place : ℕ) : Type 0 where
  pub before : (p : ℕ) → p < place → slice_get kept p ≡ slice_get read p
  pub here : slice_get kept place ≢ slice_get read place

-- the faults that a write may give
abbrev pub IsOfWrite : DiskFault → Type 0
IsOfWrite Device = Unit {0}
IsOfWrite (Stopped call) = Unit {0}
IsOfWrite Memory = Unit {0}
IsOfWrite (Differs at kept read) = ⊥
IsOfWrite Long = ⊥

-- the faults that a sync may give
abbrev pub IsOfSync : DiskFault → Type 0
IsOfSync Device = Unit {0}
IsOfSync (Stopped call) = Unit {0}
IsOfSync Memory = ⊥
IsOfSync (Differs at kept read) = ⊥
IsOfSync Long = ⊥

-- the faults that an attach may give: too long is a file of which more than the most bytes were read
abbrev pub IsOfAttach : (List ℕ → Type 0) → DiskFault → Type 0
IsOfAttach gives Device = Unit {0}
IsOfAttach gives (Stopped call) = ⊥
IsOfAttach gives Memory = Unit {0}
IsOfAttach gives (Differs at kept read) = ⊥
IsOfAttach gives Long = (bytes : List ℕ) × gives bytes × (most_log_bytes < length bytes)

-- what differs is named by the first place with both bytes there, and the home does not tell the file
pub record IsNamed (kept read : List ℕ) (file : Option File) (at : ℕ) (kept_byte read_byte : Option ℕ) : Type 0 where
  pub first : IsFirstDifference kept read at
  pub kept_is : kept_byte ≡ slice_get kept at
  pub read_is : read_byte ≡ slice_get read at
  pub untold : file ≡ None

-- the faults that a reading again may give
abbrev pub IsOfReread : (List ℕ → Type 0) → List ℕ → Option File → DiskFault → Type 0
IsOfReread gives kept file Device = Unit {0}
IsOfReread gives kept file (Stopped call) = ⊥
IsOfReread gives kept file Memory = Unit {0}
IsOfReread gives kept file (Differs at kept_byte read_byte) = (read : List ℕ) × gives read × IsNamed kept read file at kept_byte read_byte
IsOfReread gives kept file Long = ⊥
