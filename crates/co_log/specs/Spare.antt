-- The spare file, and how it becomes the current one.
use Rattle.std.specs.Prelude.{ℕ, ◌+◌, ◌≡◌, ◌≤◌, ◌⊎◌, Bool, true, false, if◌then◌else◌, List, [], ◌∷◌, length, max, Some, None, Result, Ok, Err}
use Rattle.co_base.specs.declared.leaves.Leaves.{Leaves}
use Rattle.co_base.specs.declared.mark.Mark.{Mark}
use Rattle.co_base.specs.declared.mark.MarkKind.TheVariants as kind
use Rattle.co_outside.specs.declared.spot.Spot.{Spot}
use Rattle.co_record.specs.declared.record.Record.{Record}
use Rattle.co_record.specs.declared.record.Record.TheVariants.{Header, Prepare, Commit, Abort, End, Checkpoint}
use Rattle.co_record.specs.Format.{newest}
use Rattle.co_record.specs.Spelling.{IsWritable, AreInKeyOrder}
use Rattle.co_log.specs.declared.fault.LogFault.{LogFault}
use Rattle.co_log.specs.declared.fault.LogFault.TheVariants.{Device, Stopped, Bad, Differs, Full, InUse, Memory}
use Rattle.co_frame.specs.Gate.{begins_closed, closes_spare, batch_is_stable}
use Rattle.co_log.specs.Appending.{IsTooLong}
use Rattle.co_log.specs.LogFile.{placed_from}
use Rattle.co_log.specs.LogView.{LogView, IsLive}
use Rattle.co_log.specs.Stopping.{IsPast}

-- The bytes that a spare has while it is closed: the old ones, or a first gate that is not open, or at most one
-- byte; and it has more than one byte only where it had as many before.
abbrev pub IsSpareImage : List ℕ → List ℕ → Type 0
IsSpareImage old bytes = ((bytes ≡ old) ⊎ ((begins_closed bytes ≡ true) ⊎ (length bytes ≤ 1))) × (length bytes ≤ max 1 (length old))

-- The log after its spare file was closed, or was not: all else is as it was but what a log write clears.
pub record IsClosed (closed : Bool) (log after : LogView) : Type 0 where
  pub node : after.node ≡ log.node
  pub version : after.version ≡ log.version
  pub current : after.current ≡ log.current
  pub gate : after.gate ≡ log.gate
  pub generation : after.generation ≡ log.generation
  pub disarmed : after.stop ≡ None
  pub spot : after.spare.spot ≡ log.spare.spot
  pub still : after.spare.state.pending ≡ []
  pub closed_is : begins_closed after.spare.state.stable ≡ closed
  pub image : IsSpareImage log.spare.state.stable after.spare.state.stable

-- Ok comes where the armed stop, if there is one, has a number above the two device calls. A stopped write
-- has no batch, so none is stable and it tells nothing; its image says whether the spare is closed.
abbrev pub IsClosing : LogView → LogView → Result (Unit {0}) LogFault → Type 0
IsClosing log after (Ok done) = IsClosed true log after × (after.waiting ≡ log.waiting) × IsPast 2 log.stop
IsClosing log after (Err (Stopped call stable marks)) =
    (leaves : Leaves) × (log.stop ≡ Some (record { call = call; leaves = leaves })) × (call ≤ 2) × (stable ≡ false) × (marks ≡ [])
    × IsClosed (closes_spare leaves) log after × (after.waiting ≡ [])
IsClosing log after (Err (Device spot)) = Unit {0}
IsClosing log after (Err (Bad spot at)) = Unit {0}
IsClosing log after (Err (Differs spot at kept read)) = Unit {0}
IsClosing log after (Err (Full spot)) = Unit {0}
IsClosing log after (Err (InUse spot)) = Unit {0}
IsClosing log after (Err Memory) = Unit {0}

-- the faults of a closing of the file of this spot: it is never too long
abbrev pub IsOfClosing : Spot → LogFault → Type 0
IsOfClosing spot (Device at) = at ≡ spot
IsOfClosing spot (Stopped call stable marks) = Unit {0}
IsOfClosing spot (Bad at place) = ⊥
IsOfClosing spot (Differs at place kept read) = ⊥
IsOfClosing spot (Full at) = ⊥
IsOfClosing spot (InUse at) = ⊥
IsOfClosing spot Memory = Unit {0}

-- the records that are written into a spare: a header of the next generation, and these
abbrev pub filling : LogView → List Record → List Record
filling log items = Header log.node (log.generation + 1) ∷ items

-- the spare would be too long with these records, or there is no next generation
abbrev pub IsOverfull : LogView → List Record → Type 0
IsOverfull log items = IsTooLong 0 (filling log items) ⊎ (log.generation ≡ 4294967295)

-- A record that a spare may be filled with: one that is written, where its lists are not too long to be counted.
abbrev pub IsFillable : Record → Type 0
IsFillable (Header node generation) = ⊥
IsFillable (Prepare txn coord count reads writes) = IsWritable (Prepare txn coord count reads writes)
IsFillable (Commit txn members) = IsWritable (Commit txn members)
IsFillable (Abort txn) = Unit {0}
IsFillable (End txn) = Unit {0}
IsFillable (Checkpoint rows undos committed) = AreInKeyOrder undos

-- the mark of a filled spare
abbrev pub filling_mark : LogView → Mark
filling_mark log = record { node = log.node; kind = kind.Checkpoint; number = log.generation + 1 }

-- the log with its files exchanged, of which the current one is of the newest version
abbrev pub turned : LogView → ℕ → ℕ → LogView
turned log gate generation =
    record { node = log.node; version = newest; current = log.spare; spare = log.current; gate = gate; generation = generation; waiting = log.waiting; stop = log.stop }

-- The log after its spare became the current file, with these records in place of all others; the file that
-- was current is the spare.
pub record IsFilled (log after : LogView) (items : List Record) : Type 0 where
  pub node : after.node ≡ log.node
  pub version : after.version ≡ newest
  pub spot : after.current.spot ≡ log.spare.spot
  pub spare : after.spare ≡ log.current
  pub generation : after.generation ≡ log.generation + 1
  pub waiting : after.waiting ≡ []
  pub disarmed : after.stop ≡ None
  pub opens : begins_closed after.spare.state.stable ≡ false
  pub live : IsLive after (placed_from 5 (filling log items))

-- the records of the current file after a filling that counts, or does not
abbrev pub filled_items : Bool → LogView → List (ℕ × Record) → List Record → List (ℕ × Record)
filled_items true log items more = placed_from 5 (filling log more)
filled_items false log items more = items

-- The log after a stopped filling that does not count: the current file is the old one.
pub record IsUnfilled (log after : LogView) : Type 0 where
  pub node : after.node ≡ log.node
  pub version : after.version ≡ log.version
  pub current : after.current ≡ log.current
  pub gate : after.gate ≡ log.gate
  pub generation : after.generation ≡ log.generation
  pub waiting : after.waiting ≡ []
  pub disarmed : after.stop ≡ None
  pub spot : after.spare.spot ≡ log.spare.spot
  pub still : after.spare.state.pending ≡ []
  pub closed : begins_closed after.spare.state.stable ≡ true

-- the log after a filling that counts, or does not
abbrev pub IsFilledIf : Bool → LogView → LogView → List Record → Type 0
IsFilledIf true log after items = IsFilled log after items
IsFilledIf false log after items = IsUnfilled log after

abbrev pub IsFilling : LogView → List Record → LogView → Result Mark LogFault → Type 0
IsFilling log items after (Ok mark) = (log.stop ≡ None) × (mark ≡ filling_mark log) × IsFilled log after items
IsFilling log items after (Err (Stopped call stable marks)) =
    (leaves : Leaves) × (log.stop ≡ Some (record { call = call; leaves = leaves })) × (stable ≡ batch_is_stable call leaves)
    × (marks ≡ (if stable then filling_mark log ∷ [] else [])) × IsFilledIf stable log after items
IsFilling log items after (Err (Device spot)) = Unit {0}
IsFilling log items after (Err (Bad spot at)) = Unit {0}
IsFilling log items after (Err (Differs spot at kept read)) = Unit {0}
IsFilling log items after (Err (Full spot)) = Unit {0}
IsFilling log items after (Err (InUse spot)) = Unit {0}
IsFilling log items after (Err Memory) = Unit {0}
