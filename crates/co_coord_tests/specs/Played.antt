-- A coordinator over a directory in memory that stands for a plain one.
use Rattle.std.specs.Prelude.{ℕ, Bool, true, ◌≡◌, List, []}
use Rattle.co_base.specs.Order.{IsAscending}
use Rattle.co_base.specs.declared.node.Node.TheVariants as node
use Rattle.co_base.specs.declared.part.Part.{Part}
use Rattle.co_base.specs.Limits.{most_coordinators}
use Rattle.co_outside.specs.declared.home_memory.HomeMemory.{HomeMemory}
use Rattle.co_outside.specs.HomeMemory.{memory_seen}
use Rattle.co_log.specs.LogView.{LogView, IsHeld}
use Rattle.co_node.specs.NodeLog.{RepresentsLog}
use Rattle.co_plain.specs.CoordStep.{members_of}
use Rattle.co_plain.specs.CoordView.{all_up_to}
use Rattle.co_plain.specs.Opening.{opened_log}
use Rattle.co_plain.specs.declared.coord_state.CoordState.{CoordState}
use Rattle.co_law_node.specs.WholeCoords.{IsWholeCoord}
use Rattle.co_plain.specs.Numbers.{IsAmong}
use Rattle.co_law_node.specs.Writable.{IsWritableCoord}
use Rattle.co_coord.specs.Standing.{is_up, RepresentsCoord}
use Rattle.co_coord.specs.declared.coord.Coord.{Coord}

-- the directory has what the log keeps of its files
abbrev pub IsHeldIn : HomeMemory → LogView → Type 0
IsHeldIn home log = IsHeld (memory_seen home) log

-- a coordinator of three members, whose log the directory has, stands for some plain one that is whole and writable
pub record IsPlayed (home : HomeMemory) (coord : Coord) : Type 0 where
  pub members : coord.members ≡ 3
  pub own : IsAmong coord.number most_coordinators
  pub held : IsHeldIn home coord.log
  pub plain : CoordState
  pub stands : RepresentsCoord coord plain
  pub whole : IsWholeCoord 3 plain
  pub writable : IsWritableCoord coord.number plain

-- and it runs
pub record IsRunning (home : HomeMemory) (coord : Coord) : Type 0 where
  pub played : IsPlayed home coord
  pub up : is_up coord ≡ true

-- members of a federation of three, ascending
abbrev pub AreNamed : List ℕ → Type 0
AreNamed members = (all_up_to 3 members ≡ true) × IsAscending members

-- participants that a commit may name
abbrev pub MayName : List Part → Type 0
MayName parts = AreNamed (members_of parts)

-- the log of coordinator 1 was made in this directory, and its records are none, but for the header
pub record IsMadeIn (home : HomeMemory) (log : LogView) : Type 0 where
  pub held : IsHeldIn home log
  pub spare_closed : Bool
  pub stands : RepresentsLog (node.Coord 1) log (opened_log (node.Coord 1) (record { records = []; spare_closed = spare_closed }))
