-- What a fault leaves in the files of the nodes, where the directory tells them.
use Rattle.std.specs.Prelude.{ℕ, ◌≡◌, ◌≤◌, ◌⊎◌, List, length, None, Option}
use Rattle.co_base.specs.declared.node.Node.{Node}
use Rattle.co_base.specs.declared.node.Node.TheVariants as node
use Rattle.co_log.specs.NodeFiles.{Items, newest_first, HasRecordsIn}
use Rattle.co_log.specs.declared.fault.NodeFault.{NodeFault}
use Rattle.co_log.specs.declared.fault.NodeFault.TheVariants as log
use Rattle.co_durable.specs.declared.fault.WorldFault.{WorldFault}
use Rattle.co_durable.specs.declared.fault.WorldFault.TheVariants as world
use Rattle.co_node.specs.Answers.{AreTold, LeftAs}
use Rattle.co_node.specs.Sizes.{IsOverlong}
use Rattle.co_opening.specs.Rest.{IsSpotOf}
use Rattle.co_outside.specs.declared.spot.Spot.{Spot}
use Rattle.co_outside.specs.Home.{File}
use Rattle.co_record.specs.declared.record.Record.{Record}
use Rattle.co_plain.specs.CoordStep.{with_coord_log}
use Rattle.co_plain.specs.Federation.{Federation}
use Rattle.co_plain.specs.LogWrite.{with_stop}
use Rattle.co_plain.specs.MemberStep.{with_log}
use Rattle.co_plain.specs.declared.coord_state.CoordState.{CoordState}
use Rattle.co_plain.specs.declared.member_state.MemberState.{MemberState}

-- a node whose armed stop is taken away
abbrev pub member_disarmed : MemberState → MemberState
member_disarmed x = with_log x (with_stop x.log None)

abbrev pub coord_disarmed : CoordState → CoordState
coord_disarmed y = with_coord_log y (with_stop y.log None)

-- the files of the node have these records, newest first, where both are told
abbrev pub HasStable : (Spot → Option File) → Node → List Record → Type 0
HasStable file owner records = AreTold file owner → (items : Items) × HasRecordsIn file owner items × (newest_first items ≡ records)

-- the files of every node of the head have the stable records of the plain federation
pub record AreLeftAs (file : Spot → Option File) (s : Federation) : Type 0 where
  pub member : (m : ℕ) → 1 ≤ m → m ≤ length s.kinds → HasStable file (node.Member m) (s.member m).log.stable
  pub coord : (c : ℕ) → 1 ≤ c → c ≤ s.coordinators → HasStable file (node.Coord c) (s.coord c).log.stable

-- The file is that of a node of the head whose log would be too long, or has no next generation.
pub data HasOverlong (s : Federation) (spot : Spot) : Type 0 where
  OverlongMember : (m : ℕ) → 1 ≤ m → m ≤ length s.kinds → IsOverlong (s.member m).log.stable → IsSpotOf (node.Member m) spot → HasOverlong s spot
  OverlongCoord : (c : ℕ) → 1 ≤ c → c ≤ s.coordinators → IsOverlong (s.coord c).log.stable → IsSpotOf (node.Coord c) spot → HasOverlong s spot

-- A file is said to be too long only where it is one of the node, and the completed write would leave it so.
abbrev pub IsFullWith : Node → List Record → NodeFault → Type 0
IsFullWith owner records (log.Device spot) = Unit {0}
IsFullWith owner records (log.Differs spot at kept read) = Unit {0}
IsFullWith owner records (log.Full spot) = IsOverlong records × IsSpotOf owner spot
IsFullWith owner records log.Memory = Unit {0}

-- So of a federation.
abbrev pub IsFullIn : Federation → WorldFault → Type 0
IsFullIn s (world.Device spot) = Unit {0}
IsFullIn s (world.Differs spot at kept read) = Unit {0}
IsFullIn s (world.InUse spot) = Unit {0}
IsFullIn s (world.Bad spot at) = Unit {0}
IsFullIn s (world.Full spot) = HasOverlong s spot
IsFullIn s world.Count = Unit {0}
IsFullIn s (world.Old spot) = Unit {0}
IsFullIn s world.Memory = Unit {0}

-- A fault of a node leaves in its files the records of before, or those of the completed write.
abbrev pub IsLeftBy : (Spot → Option File) → Node → List Record → List Record → NodeFault → Type 0
IsLeftBy file owner before completed fault = LeftAs file owner before completed × IsFullWith owner completed fault

abbrev pub AreLeftWith : (Spot → Option File) → Federation → Federation → WorldFault → Type 0
AreLeftWith file before completed fault = (AreLeftAs file before ⊎ AreLeftAs file completed) × IsFullIn completed fault

-- The files have the stable records of before the event, or those that the event leaves, or those that it leaves where no stop is armed: a write that
-- failed may be complete.
abbrev pub AreLeftNear : (Spot → Option File) → Federation → Federation → Federation → Type 0
AreLeftNear file before after completed = AreLeftAs file before ⊎ (AreLeftAs file after ⊎ AreLeftAs file completed)

-- so does a fault of an event leave them
abbrev pub AreLeftBy : (Spot → Option File) → Federation → Federation → Federation → WorldFault → Type 0
AreLeftBy file before after completed fault = AreLeftNear file before after completed × IsFullIn completed fault
