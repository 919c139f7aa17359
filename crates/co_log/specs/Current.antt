-- Which of the two files of a node is the current one, and with which records.
use Rattle.std.specs.Prelude.{ℕ, ◌+◌, ◌≡◌, ◌⊎◌, Bool, true, false, List, [], ◌∷◌, Result, Ok, Err}
use Rattle.co_base.specs.Nodes.{IsValidNode}
use Rattle.co_base.specs.declared.mark.Mark.{Mark}
use Rattle.co_base.specs.declared.node.Node.{Node}
use Rattle.co_outside.specs.Home.{HomeView}
use Rattle.co_record.specs.declared.record.Record.{Record}
use Rattle.co_record.specs.declared.record.Record.TheVariants.{Header}
use Rattle.co_log.specs.declared.fault.LogFault.{LogFault}
use Rattle.co_log.specs.declared.fault.LogFault.TheVariants.{Device, Stopped, Bad, Differs, Full, InUse, Memory}
use Rattle.co_record.specs.Format.{IsVersion, newest}
use Rattle.co_log.specs.Attaching.{IsOlder}
use Rattle.co_frame.specs.LogText.{IsLogText}
use Rattle.co_log.specs.Fresh.{header_alone}
use Rattle.co_log.specs.LogFile.{placed_from, next_items, EndsIn}
use Rattle.co_log.specs.LogView.{LogView, IsLive, IsHeld}
use Rattle.co_log.specs.Spare.{filling}

-- the first record is a header of the node with this generation
abbrev pub BeginsWith : Node → ℕ → List (ℕ × Record) → Type 0
BeginsWith node generation [] = ⊥
BeginsWith node generation (first ∷ items) = first ≡ (5, Header node generation)

-- Of these two files of a node the first one is current: it has these records, of this version and generation, and the other
-- one has no batch or a smaller generation.
pub record IsCurrentOf (node : Node) (version generation : ℕ) (current spare : List ℕ) (items : List (ℕ × Record)) : Type 0 where
  pub gate : ℕ
  pub known : IsVersion version
  pub ends : EndsIn version current gate items
  pub header : BeginsWith node generation items
  pub older : IsOlder node spare generation

-- The log stands for these records, its files are so, and nothing pends in the spare either.
pub record IsOrdered (log : LogView) (items : List (ℕ × Record)) : Type 0 where
  pub valid : IsValidNode log.node
  pub live : IsLive log items
  pub header : BeginsWith log.node log.generation items
  pub still : log.spare.state.pending ≡ []
  pub older : IsOlder log.node log.spare.state.stable log.generation

-- The log is of the newest version and in order with some records, and the home's files are its files.
pub record IsReady (home : HomeView) (log : LogView) : Type 0 where
  pub held : IsHeld home log
  pub latest : log.version ≡ newest
  pub items : List (ℕ × Record)
  pub ordered : IsOrdered log items

-- the old file is still the current one, with its records
abbrev pub IsOldCurrent : LogView → List (ℕ × Record) → List ℕ → List ℕ → Type 0
IsOldCurrent log items current spare = IsCurrentOf log.node log.version log.generation current spare items

-- Which records the current file has after a log write on it: after Ok these with the new ones; after a stop with the
-- new ones exactly where the image has its gate open; where the directory failed without the new ones or with them; and
-- without them where the file would be too long or memory was wanted.
abbrev pub IsCurrentForced : LogView → List (ℕ × Record) → List Record → List ℕ → List ℕ → Result (List Mark) LogFault → Type 0
IsCurrentForced log items more current spare (Ok marks) = IsOldCurrent log (next_items true log.gate items more) current spare
IsCurrentForced log items more current spare (Err (Stopped call stable marks)) = IsOldCurrent log (next_items stable log.gate items more) current spare
IsCurrentForced log items more current spare (Err (Device spot)) = IsOldCurrent log items current spare ⊎ IsOldCurrent log (next_items true log.gate items more) current spare
IsCurrentForced log items more current spare (Err (Bad spot at)) = ⊥
IsCurrentForced log items more current spare (Err (Differs spot at kept read)) = ⊥
IsCurrentForced log items more current spare (Err (Full spot)) = IsOldCurrent log items current spare
IsCurrentForced log items more current spare (Err (InUse spot)) = ⊥
IsCurrentForced log items more current spare (Err Memory) = IsOldCurrent log items current spare

-- the filled one is the current one, with these records in place of all others
abbrev pub IsNewCurrent : LogView → List Record → List ℕ → List ℕ → Type 0
IsNewCurrent log more current spare = IsCurrentOf log.node newest (log.generation + 1) spare current (placed_from 5 (filling log more))

-- the filled file is the current one, or the old one still is
abbrev pub IsCurrentIf : Bool → LogView → List (ℕ × Record) → List Record → List ℕ → List ℕ → Type 0
IsCurrentIf true log items more current spare = IsNewCurrent log more current spare
IsCurrentIf false log items more current spare = IsOldCurrent log items current spare

-- Which file is current after a filling of the spare: after Ok the filled one; after a stop the filled one
-- exactly where the image has its gate open; where the directory failed the one or the other; and the old one
-- where the spare would be too long or memory was wanted.
abbrev pub IsCurrentAfter : LogView → List (ℕ × Record) → List Record → List ℕ → List ℕ → Result Mark LogFault → Type 0
IsCurrentAfter log items more current spare (Ok mark) = IsNewCurrent log more current spare
IsCurrentAfter log items more current spare (Err (Stopped call stable marks)) = IsCurrentIf stable log items more current spare
IsCurrentAfter log items more current spare (Err (Device spot)) = IsOldCurrent log items current spare ⊎ IsNewCurrent log more current spare
IsCurrentAfter log items more current spare (Err (Bad spot at)) = ⊥
IsCurrentAfter log items more current spare (Err (Differs spot at kept read)) = ⊥
IsCurrentAfter log items more current spare (Err (Full spot)) = IsOldCurrent log items current spare
IsCurrentAfter log items more current spare (Err (InUse spot)) = ⊥
IsCurrentAfter log items more current spare (Err Memory) = IsOldCurrent log items current spare

-- neither file has a batch
abbrev pub HaveNoBatch : List ℕ → List ℕ → Type 0
HaveNoBatch current spare = IsLogText current [] × IsLogText spare []

-- the file is current with the header of generation 1 alone
abbrev pub IsMadeCurrent : LogView → List ℕ → List ℕ → Type 0
IsMadeCurrent log current spare = IsCurrentOf log.node newest 1 current spare (header_alone log.node)

-- Which file is current after a log was made: after Ok its current file, with its header alone; where the directory
-- failed that one or none; and none where memory was wanted.
abbrev pub IsCurrentMade : LogView → List ℕ → List ℕ → Result Mark LogFault → Type 0
IsCurrentMade log current spare (Ok mark) = IsMadeCurrent log current spare
IsCurrentMade log current spare (Err (Device spot)) = HaveNoBatch current spare ⊎ IsMadeCurrent log current spare
IsCurrentMade log current spare (Err (Stopped call stable marks)) = ⊥
IsCurrentMade log current spare (Err (Bad spot at)) = ⊥
IsCurrentMade log current spare (Err (Differs spot at kept read)) = ⊥
IsCurrentMade log current spare (Err (Full spot)) = ⊥
IsCurrentMade log current spare (Err (InUse spot)) = ⊥
IsCurrentMade log current spare (Err Memory) = HaveNoBatch current spare
