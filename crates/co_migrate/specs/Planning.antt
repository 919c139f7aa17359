-- Which logs are to be filled, and with what.
use Rattle.std.specs.Prelude.{ℕ, ◌+◌, ◌-◌, ◌≡◌, ◌≤◌, ◌==◌, ◌⊎◌, List, [], ◌∷◌, reverse, Option, if◌then◌else◌}
use Rattle.co_base.specs.Limits.{most_coordinators, most_members}
use Rattle.co_base.specs.declared.node.Node.{Node}
use Rattle.co_outside.specs.Home.{File}
use Rattle.co_outside.specs.declared.spot.Spot.{Spot}
use Rattle.co_record.specs.declared.record.Record.{Record}
use Rattle.co_record.specs.declared.record.Record.TheVariants.{Header}
use Rattle.co_record.specs.Format.{oldest}
use Rattle.co_log.specs.Current.{IsOrdered}
use Rattle.co_log.specs.LogView.{LogView, spot_of}
use Rattle.co_log.specs.NodeFiles.{Items, newest_first}
use Rattle.co_durable.specs.declared.fault.WorldFault.{WorldFault}
use Rattle.co_durable.specs.declared.fault.WorldFault.TheVariants.{Device, Differs, InUse, Bad, Full, Count, Old, Memory}
use Rattle.co_durable.specs.Durable.{IsUndurable}
use Rattle.co_law_migrate.specs.Migrated.{migrated}
use Rattle.co_opening.specs.Versions.{IsNewIn}
use Rattle.co_migrate.specs.declared.fault.MigrateFault.{MigrateFault}
use Rattle.co_migrate.specs.declared.fault.MigrateFault.TheVariants as migrate
use Rattle.co_migrate.specs.declared.planning.Refill.{Refill}

-- the logs of version 1, each with the records that tell again what it tells
abbrev pub planned : {P : Type 0} → (P → List Record) → List LogView → List P → List Refill
planned again [] pasts = []
planned again (log ∷ logs) [] = []
planned again (log ∷ logs) (past ∷ pasts) =
    if log.version == oldest then record { log = log; records = again past } ∷ planned again logs pasts else planned again logs pasts

-- The log is that of the node, of version 1, and stands for some records; and what it is to be filled with is the migrated log, behind a header of
-- the next generation, where there is one.
pub record IsPlannedFor (node : Node) (refill : Refill) : Type 0 where
  pub owned : refill.log.node ≡ node
  pub part : ℕ
  pub one_of_two : part ≤ 1
  pub current : refill.log.current.spot ≡ spot_of node part
  pub spare : refill.log.spare.spot ≡ spot_of node (1 - part)
  pub old : refill.log.version ≡ oldest
  pub items : Items
  pub ordered : IsOrdered refill.log items
  pub records : (refill.log.generation ≡ 4294967295 → ⊥) → Header node (refill.log.generation + 1) ∷ refill.records ≡ reverse (migrated node (newest_first items))

-- the logs of those nodes that are of version 1, in their order
abbrev pub ArePlanned : (Spot → Option File) → List Node → List Refill → Type 0
ArePlanned file [] plan = plan ≡ []
ArePlanned file (n ∷ ns) plan =
    (IsNewIn file n × ArePlanned file ns plan)
    ⊎ ((refill : Refill) × (more : List Refill) × (plan ≡ refill ∷ more) × IsPlannedFor n refill × ArePlanned file ns more)

-- why nothing was planned: the files are refused, or the directory failed, or there was no memory
abbrev pub IsUnplanned : (Spot → Option File) → WorldFault → Type 0
IsUnplanned file (Device spot) = Unit {0}
IsUnplanned file (Differs spot at kept read) = ⊥
IsUnplanned file (InUse spot) = ⊥
IsUnplanned file (Bad spot at) = IsUndurable file most_members most_coordinators (Bad spot at)
IsUnplanned file (Full spot) = IsUndurable file most_members most_coordinators (Full spot)
IsUnplanned file Count = ⊥
IsUnplanned file (Old spot) = ⊥
IsUnplanned file Memory = Unit {0}

-- the fault of a migration that such a fault of logs is; the others never come
abbrev pub migrate_fault : WorldFault → MigrateFault
migrate_fault (Device spot) = migrate.Device spot
migrate_fault (Differs spot at kept read) = migrate.Memory
migrate_fault (InUse spot) = migrate.Memory
migrate_fault (Bad spot at) = migrate.Bad spot at
migrate_fault (Full spot) = migrate.Full spot
migrate_fault Count = migrate.Memory
migrate_fault (Old spot) = migrate.Memory
migrate_fault Memory = migrate.Memory
