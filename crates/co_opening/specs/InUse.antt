-- Files that are in use.
use Rattle.std.specs.Prelude.{◌≡◌, ◌⊎◌, Option}
use Rattle.co_base.specs.declared.node.Node.{Node}
use Rattle.co_outside.specs.declared.spot.Spot.{Spot}
use Rattle.co_outside.specs.Home.{File}
use Rattle.co_log.specs.Attaching.{IsLonger, IsWithin}
use Rattle.co_log.specs.LogView.{spot_of}

-- no file of the node has more than one byte, where the directory tells them
abbrev pub IsUnusedNode : (Spot → Option File) → Node → Type 0
IsUnusedNode file node = IsWithin 1 (file (spot_of node 0)) × IsWithin 1 (file (spot_of node 1))

-- this is the first file of the node that has more than one byte, where the directory tells it
abbrev pub IsInUse : (Spot → Option File) → Spot → Node → Type 0
IsInUse file spot node = ((spot ≡ spot_of node 0) × IsLonger 1 (file (spot_of node 0))) ⊎ ((spot ≡ spot_of node 1) × IsWithin 1 (file (spot_of node 0)) × IsLonger 1 (file (spot_of node 1)))
