-- How the command `migrate` ends, and what is written then.
use Rattle.std.specs.Prelude.{ℕ, ◌≡◌, ◌⊎◌, List, [], ◌∷◌, ◌++◌, take, codes, decimal, Option, None, Some, Ok, Err}
use Rattle.co_base.specs.Limits.{most_coordinators, most_members}
use Rattle.co_outside.specs.Home.{File, HomeView, IsClean}
use Rattle.co_outside.specs.declared.spot.Spot.{Spot}
use Rattle.co_durable.specs.Told.{AreTold}
use Rattle.co_migrate.specs.Migrating.{IsMigrated}
use Rattle.co_migrate.specs.declared.fault.MigrateFault.{MigrateFault}
use Rattle.co_migrate.specs.declared.fault.MigrateFault.TheVariants as migrate
use Rattle.co_top.specs.Views.{SinkView, TellsWrite, TellsDevice}
use Rattle.co_top.specs.declared.status.LimitKind.TheVariants as limit
use Rattle.co_top.specs.declared.status.Status.{Status}
use Rattle.co_top.specs.declared.status.Status.TheVariants as status

-- `migrated N` and a newline
abbrev pub migrated_text : ℕ → List ℕ
migrated_text count = codes "migrated " ++ decimal count ++ 10 ∷ []

abbrev pub of_migrate : MigrateFault → Status
of_migrate (migrate.Device spot) = status.Device spot
of_migrate (migrate.Bad spot at) = status.BadLog spot at
of_migrate (migrate.Full spot) = status.Limit (limit.Log spot)
of_migrate migrate.Memory = status.Memory

-- all was migrated, and the sink took a front of the line
abbrev pub TookFrontOfLine : (Spot → Option File) → (Spot → Option File) → List ℕ → Option (List ℕ) → Type 0
TookFrontOfLine old new held told = (count : ℕ) × IsMigrated old new (Ok count) × ((n : ℕ) × (told ≡ Some (held ++ take n (migrated_text count))))

-- What the files are then and what the sink holds, by the status: the line is written after the last node is filled, and with a fault of the files or
-- of the directory nothing is.
abbrev pub IsMigrateEnd : (Spot → Option File) → (Spot → Option File) → List ℕ → Option (List ℕ) → Status → Type 0
IsMigrateEnd old new held told status.Done = (count : ℕ) × IsMigrated old new (Ok count) × (told ≡ Some (held ++ migrated_text count))
IsMigrateEnd old new held told status.Write = TookFrontOfLine old new held told
IsMigrateEnd old new held told (status.Device spot) = IsMigrated old new (Err (migrate.Device spot)) × (told ≡ Some held)
IsMigrateEnd old new held told (status.BadLog spot at) = IsMigrated old new (Err (migrate.Bad spot at)) × (told ≡ Some held)
IsMigrateEnd old new held told (status.Limit (limit.Log spot)) = IsMigrated old new (Err (migrate.Full spot)) × (told ≡ Some held)
IsMigrateEnd old new held told status.Memory = (IsMigrated old new (Err migrate.Memory) × (told ≡ Some held)) ⊎ TookFrontOfLine old new held told
IsMigrateEnd old new held told _ = ⊥

-- the statuses of the command
abbrev pub IsOfMigrate : Status → Type 0
IsOfMigrate status.Done = Unit {0}
IsOfMigrate status.Write = Unit {0}
IsOfMigrate (status.Device spot) = Unit {0}
IsOfMigrate (status.BadLog spot at) = Unit {0}
IsOfMigrate (status.Limit (limit.Log spot)) = Unit {0}
IsOfMigrate status.Memory = Unit {0}
IsOfMigrate _ = ⊥

-- The command `migrate`: how it ends, over what is seen of the sink and the directory. What it tells as migrated is synced.
pub record MigratesAs (directory : List ℕ) (out_old out_new : SinkView) (old new : HomeView) (ended : Status) : Type 0 where
  pub end : AreTold old.file most_members most_coordinators → (held : List ℕ) → out_old.told ≡ Some held → IsMigrateEnd old.file new.file held out_new.told ended
  pub own : IsOfMigrate ended
  pub told : (s : Spot) → new.file s ≡ None → old.file s ≡ None
  pub entered : ended ≡ status.Done → new.entered ≡ Some directory
  pub clean : ended ≡ status.Done → (s : Spot) → IsClean old s → IsClean new s
  pub write : TellsWrite out_old out_new ended
  pub device : TellsDevice old new ended
