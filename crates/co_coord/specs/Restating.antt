-- What a checkpoint of a coordinator writes, and how it leaves the directory.
use Rattle.std.specs.Prelude.{ℕ, Bool, true, false, List, [], reverse, Result}
use Rattle.std.specs.FinMap.{entries}
use Rattle.std.specs.List.{AllByRecursion}
use Rattle.co_base.specs.declared.node.Node.{Node}
use Rattle.co_record.specs.declared.record.Record.{Record}
use Rattle.co_record.specs.Spelling.{IsWritable}
use Rattle.co_log.specs.LogView.{LogView}
use Rattle.co_log.specs.Spare.{IsOverfull}
use Rattle.co_log.specs.declared.fault.NodeFault.{NodeFault}
use Rattle.co_outside.specs.Home.{HomeView}
use Rattle.co_node.specs.Answers.{IsAnswered}
use Rattle.co_node.specs.Writes.{filled_with}
use Rattle.co_node.specs.declared.written.Written.{Written}
use Rattle.co_plain.specs.CoordLog.{commits_onto, coord_spare}
use Rattle.co_plain.specs.declared.coord_state.CoordState.{CoordState}

-- the commits that are told again, newest first: that of the committed transaction with the greatest number is the newest
abbrev pub restated : CoordState → List Record
restated y = commits_onto [] (entries y.table)

-- whatever its generation, what a filled spare holds is within its bounds
abbrev pub MayRestate : ℕ → CoordState → Type 0
MayRestate c y = (generation : ℕ) → AllByRecursion IsWritable (coord_spare c y generation)

-- How one step of a checkpoint leaves the directory, where the spare was closed or was not: one that closes it is never too long, and
-- leaves the stable records.
abbrev pub IsCheckpointed : Bool → Node → CoordState → LogView → LogView → HomeView → HomeView → Result Written NodeFault → Type 0
IsCheckpointed true owner y log after old new result =
    IsAnswered owner log.spare.spot (IsOverfull log (reverse (restated y))) y.log.stable (filled_with owner y.log (restated y)) after old new result
IsCheckpointed false owner y log after old new result = IsAnswered owner log.spare.spot ⊥ y.log.stable y.log.stable after old new result
