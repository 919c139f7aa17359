-- Logs as their files are read, and what is told of files that are none.
use Rattle.std.specs.Prelude.{◌≡◌, ◌⊎◌, true, List, Option, ◌≤◌}
use Rattle.co_base.specs.declared.node.Node.{Node}
use Rattle.co_outside.specs.declared.spot.Spot.{Spot}
use Rattle.co_outside.specs.Home.{HomeView, File}
use Rattle.co_disk.specs.DiskView.{DiskView}
use Rattle.co_log.specs.declared.fault.LogFault.TheVariants as log
use Rattle.co_log.specs.LogView.{spot_of, LogView}
use Rattle.co_base.specs.Limits.{most_log_bytes}
use Rattle.co_log.specs.Attaching.{IsAttached, IsWithin, IsToldAs, IsOfAttach}
use Rattle.co_durable.specs.Pairs.{FirstWhere}
use Rattle.co_durable.specs.declared.fault.WorldFault.{WorldFault}
use Rattle.co_durable.specs.declared.fault.WorldFault.TheVariants.{Device, Differs, InUse, Bad, Full, Count, Old, Memory}

-- Reading leaves the files and the entered directory, and the count of faults does not fall.
pub record OnlyReads (old new : HomeView) : Type 0 where
  pub files : (s : Spot) → new.file s ≡ old.file s
  pub directory : new.entered ≡ old.entered
  pub count : old.faults ≤ new.faults

-- the log of a node, as its two files are, where the home tells them; neither is too long
pub record IsLogOf (file : Spot → Option File) (node : Node) (opened : LogView) : Type 0 where
  pub a : DiskView
  pub b : DiskView
  pub file_a : IsToldAs (spot_of node 0) (file (spot_of node 0)) a
  pub file_b : IsToldAs (spot_of node 1) (file (spot_of node 1)) b
  pub within_a : IsWithin most_log_bytes (file (spot_of node 0))
  pub within_b : IsWithin most_log_bytes (file (spot_of node 1))
  pub attached : IsAttached node a b opened

abbrev pub HasLog : (Spot → Option File) → Node → Type 0
HasLog file node = (opened : LogView) × IsLogOf file node opened

-- Why the log of a node was not read: its files are no log, part a before part b; or a file is too long; or the
-- home failed at one of them; or there was no memory.
abbrev pub IsUnread : (Spot → Option File) → WorldFault → Node → Type 0
IsUnread file (Device spot) node = (spot ≡ spot_of node 0) ⊎ (spot ≡ spot_of node 1)
IsUnread file (Differs spot at kept read) node = ⊥
IsUnread file (InUse spot) node = ⊥
IsUnread file (Bad spot at) node = IsOfAttach node true (file (spot_of node 0)) (file (spot_of node 1)) (log.Bad spot at)
IsUnread file (Full spot) node = IsOfAttach node true (file (spot_of node 0)) (file (spot_of node 1)) (log.Full spot)
IsUnread file Count node = ⊥
IsUnread file (Old spot) node = ⊥
IsUnread file Memory node = Unit {0}

-- the first node whose log was not read, behind others that are logs
abbrev pub IsFirstUnread : (Spot → Option File) → List Node → WorldFault → Type 0
IsFirstUnread file nodes Memory = Unit {0}
IsFirstUnread file nodes fault = FirstWhere (HasLog file) (IsUnread file fault) nodes
