-- What calls on the logs of a federation leave of the directory, whatever they answer.
use Rattle.std.specs.Prelude.{ℕ, ◌≡◌, ◌⊎◌, [], None, Option}
use Rattle.co_base.specs.Nodes.{IsValidNode}
use Rattle.co_base.specs.declared.node.Node.{Node}
use Rattle.co_log.specs.Fresh.{header_alone}
use Rattle.co_log.specs.LogView.{spot_of}
use Rattle.co_log.specs.NodeFiles.{HasRecordsIn}
use Rattle.co_log.specs.Others.{OtherNodesStay}
use Rattle.co_node.specs.Answers.{AreTold}
use Rattle.co_outside.specs.Home.{File, HomeView}
use Rattle.co_outside.specs.declared.spot.Spot.{Spot}
use Rattle.co_schedule.specs.View.{IsNode}

-- it is one of the two files of this node
abbrev pub IsSpotOf : Node → Spot → Type 0
IsSpotOf node spot = (spot ≡ spot_of node 0) ⊎ (spot ≡ spot_of node 1)

-- it is a file of one of so many members and coordinators
abbrev pub IsFileOf : ℕ → ℕ → Spot → Type 0
IsFileOf members coords spot = (node : Node) × IsNode members coords node × IsSpotOf node spot

-- No file of another node is changed, and one that was told still is.
pub record OnlyOwnChange (members coords : ℕ) (old new : Spot → Option File) : Type 0 where
  pub others : (spot : Spot) → (IsFileOf members coords spot → ⊥) → new spot ≡ old spot
  pub told : (spot : Spot) → new spot ≡ None → old spot ≡ None

-- So it is of a directory, which stays entered.
pub record OnlyOwnFilesChange (members coords : ℕ) (old new : HomeView) : Type 0 where
  pub files : OnlyOwnChange members coords old.file new.file
  pub directory : new.entered ≡ old.entered

-- ---- while logs are opened

-- The files of the node stay; or they had no record, and have its header alone, or none still.
abbrev pub IsFoundOrMade : (Spot → Option File) → (Spot → Option File) → Node → Type 0
IsFoundOrMade old new node =
    ((spot : Spot) → IsSpotOf node spot → new spot ≡ old spot)
    ⊎ ((AreTold old node → HasRecordsIn old node []) × (AreTold new node → HasRecordsIn new node [] ⊎ HasRecordsIn new node (header_alone node)))

-- so it is of this node, and nothing else is changed
pub record OnlyOneIsMade (node : Node) (old new : HomeView) : Type 0 where
  pub stay : OtherNodesStay node old new
  pub made : IsFoundOrMade old.file new.file node

-- so it is of every node, and no file of a node is changed that the federation does not have
pub record AreFoundOrMade (members coords : ℕ) (old new : Spot → Option File) : Type 0 where
  pub own : OnlyOwnChange members coords old new
  pub made : (node : Node) → IsValidNode node → IsFoundOrMade old new node

-- So it is of a directory, which stays entered.
pub record OnlyOpens (members coords : ℕ) (old new : HomeView) : Type 0 where
  pub files : AreFoundOrMade members coords old.file new.file
  pub directory : new.entered ≡ old.entered
