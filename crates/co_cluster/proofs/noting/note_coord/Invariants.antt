use Rattle.co_coord.specs.Standing.{RepresentsCoord}
use Rattle.co_plain.specs.declared.coord_state.CoordState.{CoordState}
use Rattle.co_state.specs.Table.{holds}
use Rattle.co_cluster.proofs.NotedSets.{AreNotedTo}
use Rattle.co_cluster.proofs.Walks.{room}
use Rattle.co_cluster.proofs.noting.note_coord.Given as goal

abbrev pub invariant-loop-next : goal.invariant-loop-next
invariant-loop-next l = (y : CoordState) → RepresentsCoord l.fn.coord y → AreNotedTo (holds y.table) l.fn.found l.found l.next

abbrev pub decreases-loop-next : goal.decreases-loop-next
decreases-loop-next l = room l.next
