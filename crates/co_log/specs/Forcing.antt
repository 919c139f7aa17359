-- How a log write ends for the log.
use Rattle.std.specs.Prelude.{ℕ, ◌≡◌, Bool, true, false, if◌then◌else◌, List, [], Some, None, Result, Ok, Err}
use Rattle.co_base.specs.declared.leaves.Leaves.{Leaves}
use Rattle.co_base.specs.declared.mark.Mark.{Mark}
use Rattle.co_outside.specs.declared.spot.Spot.{Spot}
use Rattle.co_record.specs.declared.record.Record.{Record}
use Rattle.co_log.specs.declared.fault.LogFault.{LogFault}
use Rattle.co_log.specs.declared.fault.LogFault.TheVariants.{Device, Stopped, Bad, Differs, Full, InUse, Memory}
use Rattle.co_frame.specs.Gate.{batch_is_stable}
use Rattle.co_log.specs.LogFile.{next_items}
use Rattle.co_log.specs.LogView.{LogView, IsLive}
use Rattle.co_log.specs.Marks.{marks_of}

-- The log after a log write on its current file that added these records, or did not.
pub record IsWritten (stable : Bool) (log : LogView) (items : List (ℕ × Record)) (more : List Record) (after : LogView) : Type 0 where
  pub node : after.node ≡ log.node
  pub version : after.version ≡ log.version
  pub spot : after.current.spot ≡ log.current.spot
  pub spare : after.spare ≡ log.spare
  pub generation : after.generation ≡ log.generation
  pub waiting : after.waiting ≡ []
  pub disarmed : after.stop ≡ None
  pub live : IsLive after (next_items stable log.gate items more)

-- Ok comes where no stop was armed, and adds the records; a stopped write adds them exactly where the image
-- has the gate open. The marks are those of the records where they were added.
abbrev pub IsForced : LogView → List (ℕ × Record) → List Record → LogView → Result (List Mark) LogFault → Type 0
IsForced log items more after (Ok marks) = (log.stop ≡ None) × (marks ≡ marks_of log.node more) × IsWritten true log items more after
IsForced log items more after (Err (Stopped call stable marks)) =
    (leaves : Leaves) × (log.stop ≡ Some (record { call = call; leaves = leaves })) × (stable ≡ batch_is_stable call leaves)
    × (marks ≡ (if stable then marks_of log.node more else [])) × IsWritten stable log items more after
IsForced log items more after (Err (Device spot)) = Unit {0}
IsForced log items more after (Err (Bad spot at)) = Unit {0}
IsForced log items more after (Err (Differs spot at kept read)) = Unit {0}
IsForced log items more after (Err (Full spot)) = Unit {0}
IsForced log items more after (Err (InUse spot)) = Unit {0}
IsForced log items more after (Err Memory) = Unit {0}

-- the call did its work, or was stopped at the armed device call
abbrev pub IsDone : {A : Type 0} → Result A LogFault → Type 0
IsDone (Ok x) = Unit {0}
IsDone (Err (Device spot)) = ⊥
IsDone (Err (Stopped call stable marks)) = Unit {0}
IsDone (Err (Bad spot at)) = ⊥
IsDone (Err (Differs spot at kept read)) = ⊥
IsDone (Err (Full spot)) = ⊥
IsDone (Err (InUse spot)) = ⊥
IsDone (Err Memory) = ⊥

-- whether the records of a log write count: after Ok, and after a stop whose image has them
abbrev pub counts : {A : Type 0} → Result A LogFault → Bool
counts (Ok x) = true
counts (Err (Device spot)) = false
counts (Err (Stopped call stable marks)) = stable
counts (Err (Bad spot at)) = false
counts (Err (Differs spot at kept read)) = false
counts (Err (Full spot)) = false
counts (Err (InUse spot)) = false
counts (Err Memory) = false

-- the faults of a log write on the file of this spot
abbrev pub IsOfForce : Spot → LogFault → Type 0
IsOfForce spot (Device at) = at ≡ spot
IsOfForce spot (Stopped call stable marks) = Unit {0}
IsOfForce spot (Bad at place) = ⊥
IsOfForce spot (Differs at place kept read) = ⊥
IsOfForce spot (Full at) = at ≡ spot
IsOfForce spot (InUse at) = ⊥
IsOfForce spot Memory = Unit {0}
