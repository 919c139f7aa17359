-- How a migration is told.
use Rattle.std.proofs.Common.{◌≡◌, inl, inr, ℕ, List, Option, Some, Result, Ok, Err, ap, ◌∙◌}
use Rattle.std.specs.Prelude.{IsErrOf}
use Rattle.co_outside.specs.Home.{File}
use Rattle.co_outside.specs.declared.spot.Spot.{Spot}
use Rattle.co_migrate.specs.Migrating.{IsMigrated}
use Rattle.co_migrate.specs.declared.fault.MigrateFault.{MigrateFault}
use Rattle.co_migrate.specs.declared.fault.MigrateFault.TheVariants as migrate
use Rattle.co_top.specs.Command.{AsksMigrate}
use Rattle.co_top.specs.Migrating.{migrated_text, of_migrate, IsMigrateEnd}
use Rattle.co_top.specs.Replayed.{status_of}
use Rattle.co_top.specs.Telling.{IsTextPut}
use Rattle.co_top.specs.declared.status.Status.{Status}
use Rattle.co_top.specs.declared.status.Status.TheVariants as status

pub told_end : (old new : Spot → Option File) (count : ℕ) (held : List ℕ) (before told : Option (List ℕ)) (result : Result (Unit {0}) Status) → IsMigrated old new (Ok count) → before ≡ Some held →
    IsTextPut (migrated_text count) before told result → IsMigrateEnd old new held told (status_of result)
told_end old new count held before told (Ok u) is same put = (count, is, put held same)
told_end old new count held before told (Err status.Write) is same put = (count, is, put held same)
told_end old new count held before told (Err status.Memory) is same put = inr (count, is, put held same)
told_end old new count held before told (Err status.Done) is same put = absurd put
told_end old new count held before told (Err status.Usage) is same put = absurd put
told_end old new count held before told (Err (status.Schedule line what)) is same put = absurd put
told_end old new count held before told (Err status.Read) is same put = absurd put
told_end old new count held before told (Err (status.Device spot)) is same put = absurd put
told_end old new count held before told (Err (status.Differs spot at kept read)) is same put = absurd put
told_end old new count held before told (Err (status.InUse spot)) is same put = absurd put
told_end old new count held before told (Err (status.BadLog spot at)) is same put = absurd put
told_end old new count held before told (Err (status.OldLog spot)) is same put = absurd put
told_end old new count held before told (Err (status.NotSerial txn line)) is same put = absurd put
told_end old new count held before told (Err (status.Transcript line)) is same put = absurd put
told_end old new count held before told (Err (status.Limit what)) is same put = absurd put

pub fault_end : (old new : Spot → Option File) (held : List ℕ) (told : Option (List ℕ)) (fault : MigrateFault) → IsMigrated old new (Err fault) → told ≡ Some held → IsMigrateEnd old new held told (of_migrate fault)
fault_end old new held told (migrate.Device spot) is same = (is, same)
fault_end old new held told (migrate.Bad spot at) is same = (is, same)
fault_end old new held told (migrate.Full spot) is same = (is, same)
fault_end old new held told migrate.Memory is same = inl (is, same)

pub device_passed : (fault : MigrateFault) (spot : Spot) (status_is : Status) → status_is ≡ of_migrate fault → IsErrOf {T = ℕ} (Err fault) (migrate.Device spot) → IsErrOf {T = Unit {0}} (Err status_is) (status.Device spot)
device_passed fault spot status_is is e = let z : fault ≡ migrate.Device spot = cc in ap Err (is ∙ ap of_migrate z)

pub never_done : (fault : MigrateFault) → of_migrate fault ≡ status.Done → ⊥
never_done (migrate.Device at) e = cc
never_done (migrate.Bad at place) e = cc
never_done (migrate.Full at) e = cc
never_done migrate.Memory e = cc

pub migrate_asked : {directory other : List ℕ} → AsksMigrate directory ≡ AsksMigrate other → directory ≡ other
migrate_asked e = cc
