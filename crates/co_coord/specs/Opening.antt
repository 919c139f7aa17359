-- What a log tells of a coordinator: its table after a start, what a restart rests on, and how it leaves the directory.
use Rattle.std.specs.Prelude.{ℕ, Bool, true, false, ◌≡◌, List, map, reverse, None, Result, Ok, Err, IsOk}
use Rattle.std.specs.FinMap.{entries}
use Rattle.co_outside.specs.Home.{HomeView}
use Rattle.co_outside.specs.declared.spot.Spot.{Spot}
use Rattle.co_log.specs.LogView.{LogView}
use Rattle.co_log.specs.declared.fault.NodeFault.{NodeFault}
use Rattle.co_node.specs.Rereading.{IsReread}
use Rattle.co_plain.specs.CoordStep.{table_from}
use Rattle.co_plain.specs.CoordView.{first_refused_at_coord, recovered_commits}
use Rattle.co_plain.specs.declared.coord_state.CoordState.{CoordState}
use Rattle.co_plain.specs.declared.coord_state.Entry.{Entry}
use Rattle.co_plain.specs.declared.log_state.LogState.{LogState}
use Rattle.co_recover.specs.declared.past.Decided.{Decided}
use Rattle.co_state.specs.Table.{Table}
use Rattle.co_coord.specs.declared.step.CoordStep.{CoordStep}

-- the number of a decided transaction, and its participants
abbrev pub pair_of : Decided → ℕ × List ℕ
pair_of decided = (decided.txn, decided.members)

-- the decided transactions, none of them acknowledged
abbrev pub table_of : List Decided → Table Entry
table_of commits = table_from (map pair_of commits)

-- the table that the stable records of a log tell
abbrev pub told_table : LogState → Table Entry
told_table l = table_from (entries (recovered_commits l.stable).unended)

-- each stable record of a coordinator is allowed where it stands, in a federation of so many members
abbrev pub MayRestart : ℕ → CoordState → Type 0
MayRestart members y = first_refused_at_coord members (reverse y.log.stable) ≡ None

abbrev pub reread_by : Result CoordStep NodeFault → Result (Unit {0}) NodeFault
reread_by (Ok d) = Ok tt
reread_by (Err e) = Err e

-- A coordinator that is up answers and leaves the directory; one that is down reads the files of its log again.
abbrev pub IsRestarted : {H : Type 0} → Bool → (H → Spot → ℕ → List ℕ → Type 0) → (H → HomeView) → LogView → H → H → Result CoordStep NodeFault → Type 0
IsRestarted true gives seen l old new result = IsOk result × (new ≡ old)
IsRestarted false gives seen l old new result = IsReread gives seen l old new (reread_by result)
