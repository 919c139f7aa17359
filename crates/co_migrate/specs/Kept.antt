-- What is found of a directory after a migration, whatever it answered.
use Rattle.std.specs.Prelude.{ℕ, ◌≡◌, List, Option}
use Rattle.co_base.specs.Limits.{most_coordinators, most_members}
use Rattle.co_base.specs.declared.node.Node.TheVariants as node
use Rattle.co_outside.specs.Home.{File}
use Rattle.co_outside.specs.declared.spot.Spot.{Spot}
use Rattle.co_record.specs.declared.record.Record.{Record}
use Rattle.co_plain.specs.DurableRecords.{durable_records}
use Rattle.co_plain.specs.Opening.{Found}
use Rattle.co_plain.specs.SoundLogs.{AreSound}
use Rattle.co_law_migrate.specs.Migrated.{MayGiveWay}
use Rattle.co_opening.specs.Found.{AreFound}

-- the records of each node
abbrev pub records_in : (ℕ → Found) → ℕ → List Record
records_in found n = (found n).records

-- The logs that are found in the files are these ones, of which any gave way to the migrated ones. They are sound, and give the same durable records.
pub record KeepsRecords (file : Spot → Option File) (found_member found_coord : ℕ → Found) : Type 0 where
  pub member : ℕ → Found
  pub coord : ℕ → Found
  pub found : AreFound file most_members most_coordinators member coord
  pub members : MayGiveWay node.Member (records_in found_member) (records_in member)
  pub coords : MayGiveWay node.Coord (records_in found_coord) (records_in coord)
  pub sound : AreSound (records_in member) (records_in coord)
  pub durable : (m : ℕ) → durable_records (records_in member) (records_in coord) m ≡ durable_records (records_in found_member) (records_in found_coord) m
