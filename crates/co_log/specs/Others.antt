-- What a call on the log of one node leaves of the directory.
use Rattle.std.specs.Prelude.{◌≡◌, ◌≢◌, ◌≤◌, Option, None}
use Rattle.co_base.specs.declared.node.Node.{Node}
use Rattle.co_outside.specs.Home.{HomeView, File}
use Rattle.co_outside.specs.declared.spot.Spot.{Spot}
use Rattle.co_base.specs.Limits.{most_log_bytes}
use Rattle.co_log.specs.Attaching.{IsWithin}
use Rattle.co_log.specs.LogView.{LogView, spot_of}

-- both files of this node are as they were
pub record NodeStays (node : Node) (old new : HomeView) : Type 0 where
  pub file_a : new.file (spot_of node 0) ≡ old.file (spot_of node 0)
  pub file_b : new.file (spot_of node 1) ≡ old.file (spot_of node 1)
  pub reach_a : new.reach (spot_of node 0) ≡ old.reach (spot_of node 0)
  pub reach_b : new.reach (spot_of node 1) ≡ old.reach (spot_of node 1)

-- all files but those two are
pub record OtherFilesStay (node : Node) (old new : HomeView) : Type 0 where
  pub files : (s : Spot) → s ≢ spot_of node 0 → s ≢ spot_of node 1 → new.file s ≡ old.file s
  pub reaches : (s : Spot) → s ≢ spot_of node 0 → s ≢ spot_of node 1 → new.reach s ≡ old.reach s

-- So they are, a file that was told still is, the directory stays entered, and the count of faults does not fall.
pub record OtherNodesStay (node : Node) (old new : HomeView) : Type 0 where
  pub others : OtherFilesStay node old new
  pub told : (s : Spot) → new.file s ≡ None → old.file s ≡ None
  pub directory : new.entered ≡ old.entered
  pub count : old.faults ≤ new.faults

-- both files of a log are within the most bytes of a file, where the home tells them
abbrev pub BothWithin : (Spot → Option File) → LogView → Type 0
BothWithin file log = IsWithin most_log_bytes (file log.current.spot) × IsWithin most_log_bytes (file log.spare.spot)
