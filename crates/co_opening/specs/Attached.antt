-- Logs as they are attached, and why the log of a node was not.
use Rattle.std.specs.Prelude.{ℕ, ◌≡◌, true, false, Bool, List, Option}
use Rattle.co_base.specs.Nodes.{IsValidNode}
use Rattle.co_base.specs.declared.node.Node.{Node}
use Rattle.co_outside.specs.declared.spot.Spot.{Spot}
use Rattle.co_outside.specs.Home.{File}
use Rattle.co_log.specs.Fresh.{IsFresh}
use Rattle.co_log.specs.LogView.{LogView}
use Rattle.co_durable.specs.declared.fault.WorldFault.{WorldFault}
use Rattle.co_durable.specs.declared.fault.WorldFault.TheVariants.{Device, Differs, InUse, Bad, Full, Count, Old, Memory}
use Rattle.co_durable.specs.Nodes.{member_nodes, coord_nodes}
use Rattle.co_durable.specs.Pairs.{EachPair, FirstWhere}
use Rattle.co_durable.specs.Reading.{IsLogOf, IsUnread, IsFirstUnread}
use Rattle.co_opening.specs.InUse.{IsUnusedNode, IsInUse}

-- the log is that of the node's files; one that is not resumed is fresh, and no file of it has more than one byte
pub record IsAttachedTo (file : Spot → Option File) (resume : Bool) (node : Node) (log : LogView) : Type 0 where
  pub valid : IsValidNode node
  pub is : IsLogOf file node log
  pub fresh : resume ≡ false → IsFresh log
  pub unused : resume ≡ false → IsUnusedNode file node

-- why the log of a node was not attached
abbrev pub IsUnattached : (Spot → Option File) → Bool → WorldFault → Node → Type 0
IsUnattached file resume (Device spot) node = IsUnread file (Device spot) node
IsUnattached file resume (Differs spot at kept read) node = ⊥
IsUnattached file resume (InUse spot) node = (resume ≡ false) × IsInUse file spot node
IsUnattached file resume (Bad spot at) node = (resume ≡ true) × IsUnread file (Bad spot at) node
IsUnattached file resume (Full spot) node = (resume ≡ true) × IsUnread file (Full spot) node
IsUnattached file resume Count node = ⊥
IsUnattached file resume (Old spot) node = ⊥
IsUnattached file resume Memory node = Unit {0}

-- the first node whose log was not attached, behind others that were
abbrev pub IsFirstUnattached : (Spot → Option File) → Bool → List Node → WorldFault → Type 0
IsFirstUnattached file resume nodes (Device spot) = Unit {0}
IsFirstUnattached file resume nodes (Differs spot at kept read) = ⊥
IsFirstUnattached file resume nodes (InUse spot) = (resume ≡ false) × FirstWhere (IsUnusedNode file) (IsInUse file spot) nodes
IsFirstUnattached file resume nodes (Bad spot at) = (resume ≡ true) × IsFirstUnread file nodes (Bad spot at)
IsFirstUnattached file resume nodes (Full spot) = (resume ≡ true) × IsFirstUnread file nodes (Full spot)
IsFirstUnattached file resume nodes Count = ⊥
IsFirstUnattached file resume nodes (Old spot) = ⊥
IsFirstUnattached file resume nodes Memory = Unit {0}

-- the faults of logs that are attached
abbrev pub IsOfAttaching : WorldFault → Type 0
IsOfAttaching (Device spot) = Unit {0}
IsOfAttaching (Differs spot at kept read) = ⊥
IsOfAttaching (InUse spot) = Unit {0}
IsOfAttaching (Bad spot at) = Unit {0}
IsOfAttaching (Full spot) = Unit {0}
IsOfAttaching Count = ⊥
IsOfAttaching (Old spot) = ⊥
IsOfAttaching Memory = Unit {0}

-- the logs of all nodes, as they are attached
pub record AreAttached (file : Spot → Option File) (resume : Bool) (members coords : ℕ) (member_logs coord_logs : List LogView) : Type 0 where
  pub member : EachPair (IsAttachedTo file resume) (member_nodes members) member_logs
  pub coord : EachPair (IsAttachedTo file resume) (coord_nodes coords) coord_logs
