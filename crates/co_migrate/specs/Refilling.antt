-- How a spare file is filled, by its log and by the home.
use Rattle.std.specs.Prelude.{ℕ, ◌≡◌, ◌≢◌, ◌⊎◌, true, List, [], ◌∷◌, ◌++◌, length, Option, Some, None, Result, Ok, Err}
use Rattle.std.specs.List.{AllByRecursion}
use Rattle.co_base.specs.declared.node.Node.{Node}
use Rattle.co_outside.specs.Home.{File, HomeView, IsClean, HasFailed}
use Rattle.co_outside.specs.declared.spot.Spot.{Spot}
use Rattle.co_frame.specs.Gate.{begins_closed}
use Rattle.co_record.specs.declared.record.Record.{Record}
use Rattle.co_log.specs.Current.{IsOrdered, IsOldCurrent, IsNewCurrent}
use Rattle.co_log.specs.LogView.{LogView, IsHeld}
use Rattle.co_log.specs.NodeFiles.{Items}
use Rattle.co_log.specs.Others.{BothWithin}
use Rattle.co_log.specs.Spare.{IsFillable, IsOverfull}
use Rattle.co_opening.specs.Rest.{IsSpotOf}
use Rattle.co_migrate.specs.declared.fault.MigrateFault.{MigrateFault}
use Rattle.co_migrate.specs.declared.fault.MigrateFault.TheVariants.{Device, Bad, Full, Memory}
use Rattle.co_migrate.specs.declared.planning.Refill.{Refill}

-- the home holds the log, whose files are in order with some records and within their bounds, and no stop is armed
pub record IsAtRest (home : HomeView) (log : LogView) : Type 0 where
  pub held : IsHeld home log
  pub items : Items
  pub ordered : IsOrdered log items
  pub unarmed : log.stop ≡ None
  pub short : BothWithin home.file log

-- so is a log that is to be filled, with records that can be written but for their length
pub record MayRefill (home : HomeView) (refill : Refill) : Type 0 where
  pub rest : IsAtRest home refill.log
  pub fillable : AllByRecursion IsFillable refill.records

-- all that a closing of the spare file leaves of a log
pub record IsAlike (log after : LogView) : Type 0 where
  pub node : after.node ≡ log.node
  pub version : after.version ≡ log.version
  pub gate : after.gate ≡ log.gate
  pub generation : after.generation ≡ log.generation
  pub current : after.current ≡ log.current
  pub spare : after.spare.spot ≡ log.spare.spot

-- What the two files of a log are then, where the home tells both: `so` says it of the old file and of the spare one, by the records that the log
-- stood for. The old file is as it was.
pub record IsLeftSo (so : Items → List ℕ → List ℕ → Type 0) (log : LogView) (old new : Spot → Option File) : Type 0 where
  pub current : (items : Items) → IsOrdered log items → (c s : File) → new log.current.spot ≡ Some c → new log.spare.spot ≡ Some s → so items c.bytes s.bytes
  pub kept : new log.current.spot ≡ old log.current.spot
  pub short : BothWithin new log

-- the old file is still current; the filled one is; the one is, or the other with records that are not too many
abbrev pub IsStillOld : LogView → (Spot → Option File) → (Spot → Option File) → Type 0
IsStillOld log old new = IsLeftSo (IsOldCurrent log) log old new

abbrev pub IsNowNew : LogView → List Record → (Spot → Option File) → (Spot → Option File) → Type 0
IsNowNew log records old new = IsLeftSo (λ items c s. IsNewCurrent log records c s) log old new

abbrev pub IsOldOrNew : LogView → List Record → (Spot → Option File) → (Spot → Option File) → Type 0
IsOldOrNew log records old new = IsLeftSo (λ items c s. IsOldCurrent log items c s ⊎ (IsNewCurrent log records c s × (IsOverfull log records → ⊥))) log old new

-- every file that was clean is
abbrev pub StaysClean : HomeView → HomeView → Type 0
StaysClean old new = (s : Spot) → IsClean old s → IsClean new s

-- what the closing of the spare file answers
abbrev pub IsClosedAs : LogView → LogView → HomeView → HomeView → Result (Unit {0}) MigrateFault → Type 0
IsClosedAs log after old new (Ok done) =
    IsAlike log after × IsAtRest new after × (begins_closed after.spare.state.stable ≡ true) × StaysClean old new × (new.faults ≡ old.faults)
IsClosedAs log after old new (Err (Device spot)) = (spot ≡ log.spare.spot) × HasFailed spot old new
IsClosedAs log after old new (Err (Bad spot at)) = ⊥
IsClosedAs log after old new (Err (Full spot)) = ⊥
IsClosedAs log after old new (Err Memory) = new.faults ≡ old.faults

-- What the filling of the spare file with these records answers. It is done where they are not too many, which is told; the device failed, and the
-- one or the other file is current; they are too many; or there was no memory.
abbrev pub IsFilledAs : LogView → List Record → HomeView → HomeView → Result (Unit {0}) MigrateFault → Type 0
IsFilledAs log records old new (Ok done) =
    IsNowNew log records old.file new.file × (IsOverfull log records → ⊥) × StaysClean old new × (new.faults ≡ old.faults)
IsFilledAs log records old new (Err (Device spot)) = IsOldOrNew log records old.file new.file × (spot ≡ log.spare.spot) × HasFailed spot old new
IsFilledAs log records old new (Err (Bad spot at)) = ⊥
IsFilledAs log records old new (Err (Full spot)) =
    IsStillOld log old.file new.file × (spot ≡ log.spare.spot) × IsOverfull log records × (new.faults ≡ old.faults)
IsFilledAs log records old new (Err Memory) = IsStillOld log old.file new.file × (new.faults ≡ old.faults)

-- ---- many logs, one after another

-- no two of these nodes are one
abbrev pub AreApart : List Node → Type 0
AreApart [] = Unit {0}
AreApart (n ∷ ns) = AllByRecursion (λ other. n ≢ other) ns × AreApart ns

abbrev pub refill_node : Refill → Node
refill_node refill = refill.log.node

-- the spare file was filled, and the records were not too many for it
abbrev pub IsRefilled : (Spot → Option File) → (Spot → Option File) → Refill → Type 0
IsRefilled old new refill = IsNowNew refill.log refill.records old new × (IsOverfull refill.log refill.records → ⊥)

-- what a fault leaves of the log at which it came
abbrev pub LeavesRefill : (Spot → Option File) → (Spot → Option File) → MigrateFault → Refill → Type 0
LeavesRefill old new (Device spot) refill = IsOldOrNew refill.log refill.records old new × (spot ≡ refill.log.spare.spot)
LeavesRefill old new (Bad spot at) refill = ⊥
LeavesRefill old new (Full spot) refill = IsStillOld refill.log old new × (spot ≡ refill.log.spare.spot) × IsOverfull refill.log refill.records
LeavesRefill old new Memory refill = IsStillOld refill.log old new

-- no other file is changed than those of these logs
abbrev pub OnlyTheseChange : List Refill → (Spot → Option File) → (Spot → Option File) → Type 0
OnlyTheseChange refills old new = (s : Spot) → AllByRecursion (λ refill. IsSpotOf (refill_node refill) s → ⊥) refills → new s ≡ old s

-- So many logs were filled, and then a fault came at the next one; those behind it are as they were.
pub record AreCutAt (plan : List Refill) (old new : Spot → Option File) (fault : MigrateFault) : Type 0 where
  pub before : List Refill
  pub at : Refill
  pub behind : List Refill
  pub split : plan ≡ before ++ at ∷ behind
  pub filled : AllByRecursion (IsRefilled old new) before
  pub left : LeavesRefill old new fault at
  pub only : OnlyTheseChange (before ++ at ∷ []) old new

-- What the filling of many logs answers: all are filled, and how many they are; or a fault came at one of them.
abbrev pub AreRefilledAs : List Refill → HomeView → HomeView → Result ℕ MigrateFault → Type 0
AreRefilledAs plan old new (Ok n) =
    (n ≡ length plan) × AllByRecursion (IsRefilled old.file new.file) plan × OnlyTheseChange plan old.file new.file × StaysClean old new
AreRefilledAs plan old new (Err fault) = AreCutAt plan old.file new.file fault
