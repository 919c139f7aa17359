-- Logs without a batch, and how they are made.
use Rattle.std.specs.Prelude.{ℕ, ◌≡◌, ◌≤◌, ◌⊎◌, true, List, [], ◌∷◌, length}
use Rattle.co_base.specs.declared.node.Node.{Node}
use Rattle.co_outside.specs.declared.spot.Spot.{Spot}
use Rattle.co_frame.specs.LogText.{IsLogText}
use Rattle.co_record.specs.declared.record.Record.{Record}
use Rattle.co_record.specs.declared.record.Record.TheVariants.{Header}
use Rattle.co_record.specs.Format.{newest}
use Rattle.co_log.specs.declared.fault.LogFault.{LogFault}
use Rattle.co_log.specs.declared.fault.LogFault.TheVariants as faults
use Rattle.co_frame.specs.Gate.{begins_closed}
use Rattle.co_log.specs.LogFile.{EndsAt}
use Rattle.co_log.specs.LogView.{LogView, IsLive}

-- neither file has a batch, and nothing pends
pub record IsFresh (log : LogView) : Type 0 where
  pub unmade : log.gate ≡ 0
  pub version : log.version ≡ newest
  pub still : log.current.state.pending ≡ []
  pub spare_still : log.spare.state.pending ≡ []
  pub none : IsLogText log.current.state.stable []
  pub spare_none : IsLogText log.spare.state.stable []

-- the records of a made log: its header alone, behind a gate and a length
abbrev pub header_alone : Node → List (ℕ × Record)
header_alone node = (5, Header node 1) ∷ []

-- the log after it was made
pub record IsMade (log after : LogView) : Type 0 where
  pub node : after.node ≡ log.node
  pub version : after.version ≡ newest
  pub spot : after.current.spot ≡ log.current.spot
  pub spare : after.spare ≡ log.spare
  pub generation : after.generation ≡ 1
  pub waiting : after.waiting ≡ log.waiting
  pub stop : after.stop ≡ log.stop
  pub live : IsLive after (header_alone log.node)

-- A file that is made: until its closed gate is stable it has at most one byte; then it begins with that gate, or
-- ends behind these records.
abbrev pub IsMaking : List ℕ → List (ℕ × Record) → Type 0
IsMaking bytes items = (length bytes ≤ 1) ⊎ ((begins_closed bytes ≡ true) ⊎ ((gate : ℕ) × EndsAt bytes gate items))

-- the faults of a write of one byte on the file of this spot
abbrev pub IsOfDevice : Spot → LogFault → Type 0
IsOfDevice spot (faults.Device at) = at ≡ spot
IsOfDevice spot (faults.Stopped call stable marks) = ⊥
IsOfDevice spot (faults.Bad at place) = ⊥
IsOfDevice spot (faults.Differs at place kept read) = ⊥
IsOfDevice spot (faults.Full at) = ⊥
IsOfDevice spot (faults.InUse at) = ⊥
IsOfDevice spot faults.Memory = Unit {0}
