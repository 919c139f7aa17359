-- Which of the two files of a node is current, and why a log is not attached.
use Rattle.std.specs.Prelude.{ℕ, ◌≡◌, ◌≤◌, ◌<◌, ◌⊎◌, Bool, true, false, List, [], length, nat_lt, Option, Some, None}
use Rattle.co_base.specs.Limits.{most_log_bytes}
use Rattle.co_base.specs.declared.node.Node.{Node}
use Rattle.co_outside.specs.declared.spot.Spot.{Spot}
use Rattle.co_outside.specs.Home.{File}
use Rattle.co_disk.specs.DiskModel.{read_of}
use Rattle.co_disk.specs.DiskView.{DiskView}
use Rattle.co_frame.specs.LogText.{IsLogText}
use Rattle.co_record.specs.Format.{newest}
use Rattle.co_log.specs.declared.fault.LogFault.{LogFault}
use Rattle.co_log.specs.declared.fault.LogFault.TheVariants.{Device, Stopped, Bad, Differs, Full, InUse, Memory}
use Rattle.co_log.specs.LogView.{LogView, spot_of}
use Rattle.co_log.specs.Scanning.{IsLogFileIn, IsLogFile, IsBadAt}

-- a log without waiting records and without an armed stop
abbrev pub built : Node → ℕ → DiskView → DiskView → ℕ → ℕ → LogView
built node version current spare gate generation =
    record { node = node; version = version; current = current; spare = spare; gate = gate; generation = generation; waiting = []; stop = None }

-- the file has no batch, or a smaller generation
abbrev pub IsOlder : Node → List ℕ → ℕ → Type 0
IsOlder node bytes generation = IsLogText bytes [] ⊎ ((gate : ℕ) × (older : ℕ) × IsLogFile node bytes gate (Some older) × (older < generation))

-- of two files the one is current: it has the greater generation, or is the only one with a batch
pub record IsCurrent (node : Node) (current spare : DiskView) (log : LogView) : Type 0 where
  pub version : ℕ
  pub gate : ℕ
  pub generation : ℕ
  pub is : log ≡ built node version current spare gate generation
  pub file : IsLogFileIn version node current.state.stable gate (Some generation)
  pub older : IsOlder node spare.state.stable generation

-- neither file has a batch, and part a is current; or the one or the other file is
abbrev pub IsAttached : Node → DiskView → DiskView → LogView → Type 0
IsAttached node a b log =
    ((log ≡ built node newest a b 0 0) × IsLogText a.state.stable [] × IsLogText b.state.stable []) ⊎ (IsCurrent node a b log ⊎ IsCurrent node b a log)

-- two files have one generation
abbrev pub AreTwins : Node → List ℕ → List ℕ → Type 0
AreTwins node a b = (generation : ℕ) × (gate : ℕ) × (other : ℕ) × IsLogFile node a gate (Some generation) × IsLogFile node b other (Some generation)

-- the file is a log of the node
abbrev pub IsGood : Node → List ℕ → Type 0
IsGood node bytes = (gate : ℕ) × (generation : Option ℕ) × IsLogFile node bytes gate generation

-- Why two read files are no log: the first is bad, or the second where the first is good, or they are twins.
abbrev pub IsBadPair : Node → DiskView → DiskView → LogFault → Type 0
IsBadPair node a b (Device spot) = ⊥
IsBadPair node a b (Stopped call stable marks) = ⊥
IsBadPair node a b (Bad spot at) =
    ((spot ≡ a.spot) × IsBadAt node a.state.stable at)
    ⊎ ((spot ≡ b.spot) × IsGood node a.state.stable × (IsBadAt node b.state.stable at ⊎ ((at ≡ 0) × AreTwins node a.state.stable b.state.stable)))
IsBadPair node a b (Differs spot at kept read) = ⊥
IsBadPair node a b (Full spot) = ⊥
IsBadPair node a b (InUse spot) = ⊥
IsBadPair node a b Memory = ⊥

-- a told file has more than so many bytes
abbrev pub IsLonger : ℕ → Option File → Type 0
IsLonger most file = (f : File) → file ≡ Some f → most < length f.bytes

-- a told file has at most so many bytes
abbrev pub IsWithin : ℕ → Option File → Type 0
IsWithin most file = (f : File) → file ≡ Some f → length f.bytes ≤ most

-- whether a file, which is none where it is too long to be read, has more than one byte
abbrev pub used_of : Option DiskView → Bool
used_of None = true
used_of (Some disk) = nat_lt 1 (length (read_of disk.state))

-- the disk of the file at a spot, which has its bytes where the home tells them
pub record IsToldAs (spot : Spot) (file : Option File) (disk : DiskView) : Type 0 where
  pub at : disk.spot ≡ spot
  pub told : (f : File) → file ≡ Some f → f.bytes ≡ disk.state.stable
  pub still : disk.state.pending ≡ []

-- Why a log was not attached, by the files of parts a and b where the home tells them. Part a is named
-- before part b. A log in use is refused where it is not resumed, and all else that a file is refused for
-- where it is; no file is too long where one is bad.
abbrev pub IsOfAttach : Node → Bool → Option File → Option File → LogFault → Type 0
IsOfAttach node resume a b (Device spot) = (spot ≡ spot_of node 0) ⊎ (spot ≡ spot_of node 1)
IsOfAttach node resume a b (Stopped call stable marks) = ⊥
IsOfAttach node resume a b (Bad spot at) =
    (resume ≡ true) × IsWithin most_log_bytes a × IsWithin most_log_bytes b × ((view_a : DiskView) × (view_b : DiskView) × IsToldAs (spot_of node 0) a view_a × IsToldAs (spot_of node 1) b view_b × IsBadPair node view_a view_b (Bad spot at))
IsOfAttach node resume a b (Differs spot at kept read) = ⊥
IsOfAttach node resume a b (Full spot) =
    (resume ≡ true) × (((spot ≡ spot_of node 0) × IsLonger most_log_bytes a) ⊎ ((spot ≡ spot_of node 1) × IsWithin most_log_bytes a × IsLonger most_log_bytes b))
IsOfAttach node resume a b (InUse spot) =
    (resume ≡ false) × (((spot ≡ spot_of node 0) × IsLonger 1 a) ⊎ ((spot ≡ spot_of node 1) × IsWithin 1 a × IsLonger 1 b))
IsOfAttach node resume a b Memory = Unit {0}
