-- What a crash within a migration may leave of the files of a directory.
use Rattle.std.specs.Prelude.{ℕ, ◌-◌, ◌≡◌, ◌⊎◌, false, if◌then◌else◌, List, [], ◌∷◌, reverse, Option, Some}
use Rattle.co_base.specs.declared.node.Node.{Node}
use Rattle.co_disk.specs.DiskModel.{DiskState, IsImage, read_of, stable_disk, after_write}
use Rattle.co_frame.specs.Gate.{begins_closed}
use Rattle.co_frame.specs.LogText.{closed_gate}
use Rattle.co_log.specs.Appending.{IsTooLong}
use Rattle.co_log.specs.BatchWrite.{closed_batch, disk_at}
use Rattle.co_log.specs.LogView.{spot_of}
use Rattle.co_log.specs.NodeFiles.{newest_first}
use Rattle.co_law_migrate.specs.Migrated.{migrated}
use Rattle.co_outside.specs.Home.{File}
use Rattle.co_outside.specs.declared.spot.Spot.{Spot}
use Rattle.co_record.specs.declared.record.Record.{Record}
use Rattle.co_migrate.specs.Migrating.{IsOldNode, AreFilledUpTo}

-- The disk of a spare file, where it is closed: its first gate, which is not closed, is written, and that is synced.
abbrev pub IsAtClosing : List ℕ → DiskState → Type 0
IsAtClosing spare disk = (begins_closed spare ≡ false) × (disk ≡ after_write (stable_disk spare) 0 (closed_gate ∷ []))

-- the bytes of the spare file when it is closed
abbrev pub shut_spare : List ℕ → List ℕ
shut_spare spare = if begins_closed spare then spare else read_of (after_write (stable_disk spare) 0 (closed_gate ∷ []))

-- The disk of a spare file that is closed, at a device call of the log write that fills it with these records, where they have room: their batch is written
-- behind the gate and synced, and then the gate is opened, and that is synced.
pub record IsAtFilling (spare : List ℕ) (records : List Record) (disk : DiskState) : Type 0 where
  pub room : IsTooLong 0 records → ⊥
  pub call : ℕ
  pub is : disk ≡ disk_at call (shut_spare spare) 0 (closed_batch records)

-- the disk of the other file of a node of version 1, at a device call of a migration
abbrev pub IsAtCall : {file : Spot → Option File} {node : Node} → IsOldNode file node → DiskState → Type 0
IsAtCall {node = node} old disk =
    IsAtClosing old.is.that.bytes disk
    ⊎ ((old.generation ≡ 4294967295 → ⊥) × IsAtFilling old.is.that.bytes (reverse (migrated node (newest_first old.items))) disk)

-- The node was of version 1. Of its other file there is an image of the disk at a device call; the old file is as it was.
pub record IsCutIn (old image : Spot → Option File) (node : Node) : Type 0 where
  pub was : IsOldNode old node
  pub disk : DiskState
  pub at : IsAtCall was disk
  pub left : File
  pub left_is : image (spot_of node (1 - was.part)) ≡ Some left
  pub stands : IsImage disk left.bytes
  pub kept : image (spot_of node was.part) ≡ old (spot_of node was.part)

-- What a crash at a device call of a migration leaves: some nodes of version 1 are filled, in their order, and the crash came at the next one. No other
-- file is changed.
abbrev pub IsCutMigration : (old image : Spot → Option File) → Type 0
IsCutMigration old image = AreFilledUpTo old image (IsCutIn old image)
