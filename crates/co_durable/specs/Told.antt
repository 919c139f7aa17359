-- Directories that tell their files, and the faults that are of the files alone.
use Rattle.std.specs.Prelude.{ℕ, ◌≡◌, Option, Some}
use Rattle.std.specs.List.{AllByRecursion}
use Rattle.co_base.specs.declared.node.Node.{Node}
use Rattle.co_outside.specs.declared.spot.Spot.{Spot}
use Rattle.co_outside.specs.Home.{File}
use Rattle.co_log.specs.LogView.{spot_of}
use Rattle.co_durable.specs.declared.fault.WorldFault.{WorldFault}
use Rattle.co_durable.specs.declared.fault.WorldFault.TheVariants.{Device, Differs, InUse, Bad, Full, Count, Old, Memory}
use Rattle.co_durable.specs.Nodes.{nodes_of}

-- both files of the node are told
abbrev pub IsTold : (Spot → Option File) → Node → Type 0
IsTold file node = (a : File) × (b : File) × (file (spot_of node 0) ≡ Some a) × (file (spot_of node 1) ≡ Some b)

-- the files of so many members and coordinators are told
abbrev pub AreTold : (Spot → Option File) → ℕ → ℕ → Type 0
AreTold file members coords = AllByRecursion (IsTold file) (nodes_of members coords)

-- the files are no logs, or one is too long
abbrev pub IsOfFiles : WorldFault → Type 0
IsOfFiles (Device spot) = ⊥
IsOfFiles (Differs spot at kept read) = ⊥
IsOfFiles (InUse spot) = ⊥
IsOfFiles (Bad spot at) = Unit {0}
IsOfFiles (Full spot) = Unit {0}
IsOfFiles Count = ⊥
IsOfFiles (Old spot) = ⊥
IsOfFiles Memory = ⊥
