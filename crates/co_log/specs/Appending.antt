-- How a log write ends.
use Rattle.std.specs.Prelude.{ℕ, ◌+◌, ◌≡◌, ◌<◌, List, length, Option, Some, None}
use Rattle.co_base.specs.Limits.{most_log_bytes}
use Rattle.co_base.specs.declared.leaves.Leaves.{Leaves}
use Rattle.co_disk.specs.DiskView.{DiskView}
use Rattle.co_outside.specs.declared.spot.Spot.{Spot}
use Rattle.co_record.specs.declared.record.Record.{Record}
use Rattle.co_log.specs.declared.append.Ending.{Ending}
use Rattle.co_log.specs.declared.append.Ending.TheVariants.{Whole, Stopped}
use Rattle.co_log.specs.declared.fault.LogFault.{LogFault}
use Rattle.co_log.specs.declared.fault.LogFault.TheVariants as faults
use Rattle.co_base.specs.declared.leaves.Stop.{Stop}
use Rattle.co_frame.specs.Gate.{batch_is_stable}
use Rattle.co_log.specs.LogFile.{spelled, next_gate, EndsAfter}
use Rattle.std.specs.Prelude.{true}

-- The whole write adds the records, and no stop was armed. A stopped one adds them exactly where the
-- image has the gate open, which it says.
abbrev pub IsEnding : Ending → Option Stop → DiskView → ℕ → List (ℕ × Record) → List Record → Type 0
IsEnding (Whole next) stop disk gate items more = (stop ≡ None) × (next ≡ next_gate true gate more) × EndsAfter true disk.state.stable gate items more
IsEnding (Stopped call stable next) stop disk gate items more =
    (leaves : Leaves) × (stop ≡ Some (record { call = call; leaves = leaves })) × (stable ≡ batch_is_stable call leaves)
    × (next ≡ next_gate stable gate more) × EndsAfter stable disk.state.stable gate items more

-- the file would be too long with a batch of these records and a gate behind its gate
abbrev pub IsTooLong : ℕ → List Record → Type 0
IsTooLong gate more = most_log_bytes < gate + 6 + length (spelled more)

-- the faults of a log write on the file of this spot
abbrev pub IsOfAppend : Spot → LogFault → Type 0
IsOfAppend spot (faults.Device at) = at ≡ spot
IsOfAppend spot (faults.Stopped call stable marks) = ⊥
IsOfAppend spot (faults.Bad at place) = ⊥
IsOfAppend spot (faults.Differs at place kept read) = ⊥
IsOfAppend spot (faults.Full at) = at ≡ spot
IsOfAppend spot (faults.InUse at) = ⊥
IsOfAppend spot faults.Memory = Unit {0}
