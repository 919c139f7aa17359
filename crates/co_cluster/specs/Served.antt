-- How a call leaves the directory, by its answer.
use Rattle.std.specs.Prelude.{◌≡◌, ◌<◌, None}
use Rattle.co_outside.specs.declared.spot.Spot.{Spot}
use Rattle.co_outside.specs.Faults.{HasRisen}
use Rattle.co_base.specs.declared.node.Node.{Node}
use Rattle.co_outside.specs.Home.{IsClean, HomeView}
use Rattle.co_log.specs.LogView.{LogView}
use Rattle.co_log.specs.declared.fault.NodeFault.{NodeFault}
use Rattle.co_log.specs.declared.fault.NodeFault.TheVariants as log
use Rattle.co_durable.specs.declared.fault.WorldFault.{WorldFault}
use Rattle.co_durable.specs.declared.fault.WorldFault.TheVariants as world
use Rattle.co_opening.specs.Nodes.{IsKept, AreKept}
use Rattle.co_cluster.specs.declared.cluster.Cluster.{Cluster}

-- The log of the node is held, no file that was clean is not, and no fault was met.
pub record IsServed (node : Node) (log : LogView) (old new : HomeView) : Type 0 where
  pub kept : IsKept new node log
  pub clean : (s : Spot) → IsClean old s → IsClean new s
  pub quiet : new.faults ≡ old.faults

-- so are the logs of all nodes
pub record AreServed {E : Type 0} (w : Cluster E) (old new : HomeView) : Type 0 where
  pub kept : AreKept new w.members.items w.coords.items
  pub clean : (s : Spot) → IsClean old s → IsClean new s
  pub quiet : new.faults ≡ old.faults

-- The directory failed at this file, or no fault was met. Only a file of a log that the directory does not tell can differ from what is kept of it; a file is too long before anything is changed.
abbrev pub HasFailedAs : NodeFault → HomeView → HomeView → Type 0
HasFailedAs (log.Device spot) old new = HasRisen old.faults new.faults × (new.last_failed ≡ spot)
HasFailedAs (log.Differs spot at kept read) old new = (new.faults ≡ old.faults) × (old.file spot ≡ None) × (spot.part < 2)
HasFailedAs (log.Full spot) old new = new ≡ old
HasFailedAs log.Memory old new = new.faults ≡ old.faults

-- The fault of a node is that of its federation.
abbrev pub of_node : NodeFault → WorldFault
of_node (log.Device spot) = world.Device spot
of_node (log.Differs spot at kept read) = world.Differs spot at kept read
of_node (log.Full spot) = world.Full spot
of_node log.Memory = world.Memory

-- So is how the directory failed then, and that only an untold file differs. An event is refused for none of the faults of opening; the limit on numbers is met, and a file is too long, where nothing of the directory was changed.
abbrev pub HasEndedAs : WorldFault → HomeView → HomeView → Type 0
HasEndedAs (world.Device spot) old new = HasRisen old.faults new.faults × (new.last_failed ≡ spot)
HasEndedAs (world.Differs spot at kept read) old new = (new.faults ≡ old.faults) × (old.file spot ≡ None) × (spot.part < 2)
HasEndedAs (world.InUse spot) old new = ⊥
HasEndedAs (world.Bad spot at) old new = ⊥
HasEndedAs (world.Full spot) old new = new ≡ old
HasEndedAs world.Count old new = new ≡ old
HasEndedAs (world.Old spot) old new = ⊥
HasEndedAs world.Memory old new = new.faults ≡ old.faults

-- a fault that no file has: the limit on numbers is met, or there is no memory
abbrev pub IsOfNoFile : WorldFault → Type 0
IsOfNoFile (world.Device spot) = ⊥
IsOfNoFile (world.Differs spot at kept read) = ⊥
IsOfNoFile (world.InUse spot) = ⊥
IsOfNoFile (world.Bad spot at) = ⊥
IsOfNoFile (world.Full spot) = ⊥
IsOfNoFile world.Count = Unit {0}
IsOfNoFile (world.Old spot) = ⊥
IsOfNoFile world.Memory = Unit {0}
