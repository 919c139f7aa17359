-- Files over which a federation may be opened.
use Rattle.std.specs.Prelude.{Bool, false, ◌≡◌, length, Option}
use Rattle.std.specs.List.{AllByRecursion}
use Rattle.co_base.specs.declared.head.Head.{Head}
use Rattle.co_outside.specs.declared.spot.Spot.{Spot}
use Rattle.co_outside.specs.Home.{File}
use Rattle.co_durable.specs.Durable.{Stands}
use Rattle.co_durable.specs.Nodes.{member_nodes, coord_nodes, nodes_of}
use Rattle.co_durable.specs.Recovering.{member_refuses, coord_refuses}
use Rattle.co_opening.specs.InUse.{IsUnusedNode}
use Rattle.co_opening.specs.Versions.{IsNewIn}

-- The files of every node are a log whose records are allowed at their places, and whose current file is of the newest version; and where the run is not
-- resumed, no file has more than one byte. Of files that the directory does not tell nothing is said.
pub record AreFit (file : Spot → Option File) (head : Head) (resume : Bool) : Type 0 where
  pub members_stand : AllByRecursion (Stands file (member_refuses head.coords)) (member_nodes (length head.kinds))
  pub coords_stand : AllByRecursion (Stands file (coord_refuses (length head.kinds))) (coord_nodes head.coords)
  pub newest : AllByRecursion (IsNewIn file) (nodes_of (length head.kinds) head.coords)
  pub unused : resume ≡ false → AllByRecursion (IsUnusedNode file) (nodes_of (length head.kinds) head.coords)
