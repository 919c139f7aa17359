-- What a migration does to a directory that tells its files, node by node.
use Rattle.std.specs.Prelude.{ℕ, ◌+◌, ◌-◌, ◌≡◌, ◌≤◌, ◌⊎◌, List, [], ◌∷◌, ◌++◌, length, reverse, Option, Some, Result, Ok, Err}
use Rattle.std.specs.List.{AllByRecursion}
use Rattle.co_base.specs.Limits.{most_coordinators, most_log_bytes, most_members}
use Rattle.co_base.specs.declared.node.Node.{Node}
use Rattle.co_outside.specs.Home.{File}
use Rattle.co_outside.specs.declared.spot.Spot.{Spot}
use Rattle.co_record.specs.Format.{newest, oldest}
use Rattle.co_log.specs.Appending.{IsTooLong}
use Rattle.co_log.specs.Current.{IsCurrentOf}
use Rattle.co_log.specs.LogFile.{placed_from}
use Rattle.co_log.specs.LogView.{spot_of}
use Rattle.co_log.specs.NodeFiles.{Items, newest_first}
use Rattle.co_durable.specs.declared.fault.WorldFault.TheVariants as world
use Rattle.co_durable.specs.Durable.{IsUndurable, Stands}
use Rattle.co_durable.specs.Nodes.{member_nodes, coord_nodes, nodes_of}
use Rattle.co_durable.specs.Recovering.{member_refuses, coord_refuses}
use Rattle.co_law_migrate.specs.Migrated.{migrated}
use Rattle.co_opening.specs.Rest.{IsSpotOf}
use Rattle.co_opening.specs.Versions.{IsNewIn}
use Rattle.co_migrate.specs.declared.fault.MigrateFault.{MigrateFault}
use Rattle.co_migrate.specs.declared.fault.MigrateFault.TheVariants.{Device, Bad, Full, Memory}

-- the nodes that a directory has files for
unfoldable pub all_nodes : List Node
all_nodes = nodes_of most_members most_coordinators

-- This part of the node is current, with these records of a version and generation; both files are told, and neither is too long.
pub record HasCurrentFile (file : Spot → Option File) (node : Node) (part version generation : ℕ) (items : Items) : Type 0 where
  pub one_of_two : part ≤ 1
  pub this : File
  pub that : File
  pub this_is : file (spot_of node part) ≡ Some this
  pub that_is : file (spot_of node (1 - part)) ≡ Some that
  pub short : length this.bytes ≤ most_log_bytes
  pub that_short : length that.bytes ≤ most_log_bytes
  pub current : IsCurrentOf node version generation this.bytes that.bytes items

-- the current file of the node is of version 1
pub record IsOldNode (file : Spot → Option File) (node : Node) : Type 0 where
  pub part : ℕ
  pub generation : ℕ
  pub items : Items
  pub is : HasCurrentFile file node part oldest generation items

-- the records that the other file is filled with, each with its place, behind one gate and a length
abbrev pub refilled_items : Node → Items → Items
refilled_items node items = placed_from 5 (reverse (migrated node (newest_first items)))

-- they are too long for a file, or there is no next generation
abbrev pub HasNoRoom : {file : Spot → Option File} {node : Node} → IsOldNode file node → Type 0
HasNoRoom {node = node} old = IsTooLong 0 (reverse (migrated node (newest_first old.items))) ⊎ (old.generation ≡ 4294967295)

-- The node was of version 1, and its other file is current now, of version 2 and the next generation, with the migrated records. The old file is as it
-- was.
pub record IsFilledIn (old new : Spot → Option File) (node : Node) : Type 0 where
  pub was : IsOldNode old node
  pub now : HasCurrentFile new node (1 - was.part) newest (was.generation + 1) (refilled_items node was.items)
  pub kept : new (spot_of node was.part) ≡ old (spot_of node was.part)
  pub fits : HasNoRoom was → ⊥

-- The node was of version 1, and is, with its records. Of its other file it is said that it is not current.
pub record IsUnfilledIn (old new : Spot → Option File) (node : Node) : Type 0 where
  pub was : IsOldNode old node
  pub now : HasCurrentFile new node was.part oldest was.generation was.items
  pub kept : new (spot_of node was.part) ≡ old (spot_of node was.part)

-- so it is, and the records have no room in the other file, which is named
pub record IsFullNode (old new : Spot → Option File) (spot : Spot) (node : Node) : Type 0 where
  pub unfilled : IsUnfilledIn old new node
  pub at : spot ≡ spot_of node (1 - unfilled.was.part)
  pub full : HasNoRoom unfilled.was

-- those of the nodes that are of version 1, in their order; all others have no file with a batch, or a current one of version 2
abbrev pub AreOldAmong : (Spot → Option File) → List Node → List Node → Type 0
AreOldAmong file [] olds = olds ≡ []
AreOldAmong file (n ∷ ns) olds = (IsNewIn file n × AreOldAmong file ns olds) ⊎ ((more : List Node) × (olds ≡ n ∷ more) × IsOldNode file n × AreOldAmong file ns more)

-- every record of every log is allowed at its place
pub record AllStand (file : Spot → Option File) : Type 0 where
  pub members : AllByRecursion (Stands file (member_refuses most_coordinators)) (member_nodes most_members)
  pub coords : AllByRecursion (Stands file (coord_refuses most_members)) (coord_nodes most_coordinators)

-- no file is changed but those of these nodes; none is
abbrev pub OnlyNodesChange : List Node → (Spot → Option File) → (Spot → Option File) → Type 0
OnlyNodesChange nodes old new = (s : Spot) → AllByRecursion (λ n. IsSpotOf n s → ⊥) nodes → new s ≡ old s

abbrev pub NoFileChanges : (Spot → Option File) → (Spot → Option File) → Type 0
NoFileChanges old new = (s : Spot) → new s ≡ old s

-- all nodes of version 1 were filled
pub record AreAllFilled (old new : Spot → Option File) (count : ℕ) : Type 0 where
  pub stand : AllStand old
  pub olds : List Node
  pub among : AreOldAmong old all_nodes olds
  pub many : count ≡ length olds
  pub filled : AllByRecursion (IsFilledIn old new) olds
  pub only : OnlyNodesChange olds old new

-- Some of them were filled, and then a fault came at the next one, of which `left` says how it is left; those behind it are as they were.
pub record AreFilledUpTo (old new : Spot → Option File) (left : Node → Type 0) : Type 0 where
  pub stand : AllStand old
  pub done : List Node
  pub at : Node
  pub behind : List Node
  pub among : AreOldAmong old all_nodes (done ++ at ∷ behind)
  pub filled : AllByRecursion (IsFilledIn old new) done
  pub here : left at
  pub only : OnlyNodesChange (done ++ at ∷ []) old new

-- What a migration leaves, by its answer. Before the first write all files are read and all records judged: with a fault of that no file is changed. Behind
-- that, one comes at a node that is to be filled.
abbrev pub IsMigrated : (Spot → Option File) → (Spot → Option File) → Result ℕ MigrateFault → Type 0
IsMigrated old new (Ok count) = AreAllFilled old new count
IsMigrated old new (Err (Device spot)) =
    NoFileChanges old new ⊎ AreFilledUpTo old new (λ node. IsSpotOf node spot × (IsUnfilledIn old new node ⊎ IsFilledIn old new node))
IsMigrated old new (Err (Bad spot at)) = NoFileChanges old new × IsUndurable old most_members most_coordinators (world.Bad spot at)
IsMigrated old new (Err (Full spot)) =
    (NoFileChanges old new × IsUndurable old most_members most_coordinators (world.Full spot)) ⊎ AreFilledUpTo old new (IsFullNode old new spot)
IsMigrated old new (Err Memory) = NoFileChanges old new ⊎ AreFilledUpTo old new (IsUnfilledIn old new)
