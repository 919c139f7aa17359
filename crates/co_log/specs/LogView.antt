-- What contracts see of a log, and when it stands for a list of records.
use Rattle.std.specs.Prelude.{ℕ, ◌≡◌, ◌⊎◌, ◌≤◌, ◌<◌, ◌==◌, length, if◌then◌else◌, List, [], Option}
use Rattle.co_base.specs.Nodes.{node_byte}
use Rattle.co_base.specs.declared.node.Node.{Node}
use Rattle.co_outside.specs.declared.spot.Spot.{Spot}
use Rattle.co_outside.specs.Home.{HomeView, Agrees}
use Rattle.co_disk.specs.DiskModel.{read_of}
use Rattle.co_base.specs.Limits.{most_log_bytes}
use Rattle.co_disk.specs.DiskView.{DiskView}
use Rattle.co_record.specs.declared.record.Record.{Record}
use Rattle.co_record.specs.declared.record.Record.TheVariants as log
use Rattle.co_record.specs.Format.{IsVersion}
use Rattle.co_base.specs.declared.leaves.Stop.{Stop}
use Rattle.co_log.specs.LogFile.{EndsIn}

-- Its node; the version of its current file, which is the newest for a fresh log; the disks of its current file and of the spare one; the place of the first gate of the current
-- file that is not open, and its generation, both 0 for a fresh log; the waiting records, oldest first; and
-- the stop of the next log write.
pub record LogView : Type 0 where
  pub node : Node
  pub version : ℕ
  pub current : DiskView
  pub spare : DiskView
  pub gate : ℕ
  pub generation : ℕ
  pub waiting : List Record
  pub stop : Option Stop

-- The log stands for these stable records of its current file, and nothing pends there. It is not fresh.
pub record IsLive (log : LogView) (items : List (ℕ × Record)) : Type 0 where
  pub made : 0 < log.gate
  pub known : IsVersion log.version
  pub still : log.current.state.pending ≡ []
  pub ends : EndsIn log.version log.current.state.stable log.gate items

-- what reads of a disk give is within the most bytes of a file
abbrev pub IsShort : DiskView → Type 0
IsShort disk = length (read_of disk.state) ≤ most_log_bytes

-- the two files of a node
abbrev pub spot_of : Node → ℕ → Spot
spot_of node part = record { node = node_byte node; part = part }

-- the files of a log are the two of its node
abbrev pub HasSpots : LogView → Type 0
HasSpots log =
    ((log.current.spot ≡ spot_of log.node 0) × (log.spare.spot ≡ spot_of log.node 1))
    ⊎ ((log.current.spot ≡ spot_of log.node 1) × (log.spare.spot ≡ spot_of log.node 0))

-- The home's files of a log are those of its node, and what reads of its disks give, where the home tells them.
pub record IsHeld (home : HomeView) (log : LogView) : Type 0 where
  pub spots : HasSpots log
  pub current : Agrees home log.current.spot (read_of log.current.state)
  pub spare : Agrees home log.spare.spot (read_of log.spare.state)

-- a record that may be forced: a prepare, a commit, an abort or an end
abbrev pub IsForcible : Record → Type 0
IsForcible (log.Header node generation) = ⊥
IsForcible (log.Prepare txn coord count reads writes) = Unit {0}
IsForcible (log.Commit txn members) = Unit {0}
IsForcible (log.Abort txn) = Unit {0}
IsForcible (log.End txn) = Unit {0}
IsForcible (log.Checkpoint rows undos committed) = ⊥

-- a record that may wait for the next log write: an abort, an end, or a prepare before the commit that is forced
abbrev pub MayWait : Record → Type 0
MayWait (log.Header node generation) = ⊥
MayWait (log.Prepare txn coord count reads writes) = Unit {0}
MayWait (log.Commit txn members) = ⊥
MayWait (log.Abort txn) = Unit {0}
MayWait (log.End txn) = Unit {0}
MayWait (log.Checkpoint rows undos committed) = ⊥

-- a header is written by the log itself
abbrev pub IsHeader : Record → Type 0
IsHeader (log.Header node generation) = Unit {0}
IsHeader (log.Prepare txn coord count reads writes) = ⊥
IsHeader (log.Commit txn members) = ⊥
IsHeader (log.Abort txn) = ⊥
IsHeader (log.End txn) = ⊥
IsHeader (log.Checkpoint rows undos committed) = ⊥

-- the lengths of both files, that of part a first
abbrev pub lengths_of : LogView → ℕ × ℕ
lengths_of log =
    if log.current.spot.part == 0 then (length (read_of log.current.state), length (read_of log.spare.state))
    else (length (read_of log.spare.state), length (read_of log.current.state))
