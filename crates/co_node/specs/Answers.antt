-- How a log write leaves the directory, by its answer.
use Rattle.std.specs.Prelude.{◌≡◌, ◌⊎◌, List, Option, Some, Result, Ok, Err}
use Rattle.co_base.specs.declared.node.Node.{Node}
use Rattle.co_outside.specs.declared.spot.Spot.{Spot}
use Rattle.co_outside.specs.Faults.{HasRisen}
use Rattle.co_outside.specs.Home.{HomeView, File, IsClean}
use Rattle.co_record.specs.declared.record.Record.{Record}
use Rattle.co_base.specs.Limits.{most_log_bytes}
use Rattle.co_log.specs.Attaching.{IsWithin}
use Rattle.co_log.specs.LogView.{LogView, IsHeld, spot_of}
use Rattle.co_log.specs.NodeFiles.{Items, newest_first, HasRecordsIn}
use Rattle.co_log.specs.declared.fault.NodeFault.{NodeFault}
use Rattle.co_log.specs.declared.fault.NodeFault.TheVariants.{Device, Differs, Full, Memory}
use Rattle.co_node.specs.Sizes.{IsOverlong}
use Rattle.co_node.specs.declared.written.Written.{Written}

-- both files of the node are told
pub record AreTold (file : Spot → Option File) (node : Node) : Type 0 where
  pub a : File
  pub b : File
  pub is_a : file (spot_of node 0) ≡ Some a
  pub is_b : file (spot_of node 1) ≡ Some b

-- both files of the node are within the most bytes of a file, where they are told
pub record AreWithin (file : Spot → Option File) (node : Node) : Type 0 where
  pub a : IsWithin most_log_bytes (file (spot_of node 0))
  pub b : IsWithin most_log_bytes (file (spot_of node 1))

-- the files of the node have one of these two lists of records, newest first, where both are told
abbrev pub LeftAs : (Spot → Option File) → Node → List Record → List Record → Type 0
LeftAs file node this that =
    AreTold file node → (items : Items) × HasRecordsIn file node items × ((newest_first items ≡ this) ⊎ (newest_first items ≡ that))

-- The log is held by the directory, no file of the node that was clean is not, none is too long, and no fault was met.
pub record IsServed (node : Node) (log : LogView) (old new : HomeView) : Type 0 where
  pub held : IsHeld new log
  pub clean_a : IsClean old (spot_of node 0) → IsClean new (spot_of node 0)
  pub clean_b : IsClean old (spot_of node 1) → IsClean new (spot_of node 1)
  pub within : AreWithin new.file node
  pub quiet : new.faults ≡ old.faults

-- The directory failed in this call at this file; the files have the old records or those of the completed write.
pub record IsFailed (node : Node) (at named : Spot) (this that : List Record) (old new : HomeView) : Type 0 where
  pub spot : named ≡ at
  pub count : HasRisen old.faults new.faults
  pub last : new.last_failed ≡ named
  pub left : LeftAs new.file node this that

-- The file would be too long, also by the records that the completed write would leave, and nothing changed.
pub record IsRefused (at named : Spot) (cause : Type 0) (that : List Record) (old new : HomeView) : Type 0 where
  pub spot : named ≡ at
  pub long : cause
  pub overlong : IsOverlong that
  pub untouched : new ≡ old

-- There was no memory; the files have the old records, and no fault was met.
pub record IsWanting (node : Node) (this : List Record) (old new : HomeView) : Type 0 where
  pub left : LeftAs new.file node this this
  pub quiet : new.faults ≡ old.faults

-- How a log write at this file leaves the directory. `long` says that the file would have more bytes than a file may have, or
-- that there is no next generation: then the write is refused or there is no memory.
abbrev pub IsAnswered : Node → Spot → Type 0 → List Record → List Record → LogView → HomeView → HomeView → Result Written NodeFault → Type 0
IsAnswered node at long this that log old new (Ok written) = (long → ⊥) × IsServed node log old new
IsAnswered node at long this that log old new (Err (Device spot)) = (long → ⊥) × IsFailed node at spot this that old new
IsAnswered node at long this that log old new (Err (Differs spot place kept read)) = ⊥
IsAnswered node at long this that log old new (Err (Full spot)) = IsRefused at spot long that old new
IsAnswered node at long this that log old new (Err Memory) = IsWanting node this old new
