-- For which plain coordinator a coordinator stands, and what a call of it does.
use Rattle.std.specs.Prelude.{ℕ, Bool, ◌≡◌, List, None, Some, is_some, Result}
use Rattle.co_base.specs.declared.mark.Mark.{Mark}
use Rattle.co_base.specs.declared.node.Node.TheVariants as node
use Rattle.co_base.specs.declared.part.Part.{Part}
use Rattle.co_log.specs.declared.fault.NodeFault.{NodeFault}
use Rattle.co_node.specs.NodeLog.{RepresentsLog}
use Rattle.co_node.specs.Writing.{written_with}
use Rattle.co_node.specs.declared.written.Written.{Written}
use Rattle.co_plain.specs.CoordStep.{coord_down, members_of}
use Rattle.co_plain.specs.declared.coord_state.CoordState.{CoordState}
use Rattle.co_plain.specs.declared.coord_state.Entry.{Entry}
use Rattle.co_plain.specs.declared.coord_state.Entry.TheVariants as entry
use Rattle.co_plain.specs.declared.coord_step.CoordStep.{CoordStep as PlainStep}
use Rattle.co_record.specs.Spelling.{IsWritable}
use Rattle.co_record.specs.declared.record.Record.TheVariants.{Commit}
use Rattle.co_state.specs.Table.{Table, look}
use Rattle.co_coord.specs.declared.coord.Coord.{Coord}
use Rattle.co_coord.specs.declared.step.CoordStep.{CoordStep}

-- whether it runs
abbrev pub is_up : Coord → Bool
is_up x = is_some x.table

-- Its log stands for the log of the plain coordinator. While it is up it has the same table; while it is down, the plain
-- coordinator is what its stable records tell.
pub record RepresentsCoord (x : Coord) (y : CoordState) : Type 0 where
  pub log : RepresentsLog (node.Coord x.number) x.log y.log
  pub up : y.up ≡ is_some x.table
  pub table : (t : Table Entry) → x.table ≡ Some t → y.table ≡ t
  pub down : x.table ≡ None → y ≡ coord_down y.log

-- A call answered, sent and told what the plain step does, and left a coordinator that stands for what the step leaves.
pub record HasDone (step : PlainStep) (d : CoordStep) (after : Coord) : Type 0 where
  pub answer : d.answer ≡ step.answer
  pub sent : d.sent ≡ step.sent
  pub marks : d.marks ≡ step.marks
  pub state : RepresentsCoord after step.state

-- it is the same coordinator, of a federation with as many members
pub record IsSame (old new : Coord) : Type 0 where
  pub number : new.number ≡ old.number
  pub members : new.members ≡ old.members

-- the commit record of each collecting transaction is one that can be written
abbrev pub MayDecide : CoordState → Type 0
MayDecide y = (t : ℕ) (parts : List Part) (yeses : List ℕ) → look y.table t ≡ Some (entry.Collecting parts yeses) → IsWritable (Commit t (members_of parts))

-- the marks of a step
abbrev pub marks_in : CoordStep → List Mark
marks_in d = d.marks

-- what a call of a coordinator says of its log write
abbrev pub written_by : Result CoordStep NodeFault → Result Written NodeFault
written_by out = written_with marks_in out
