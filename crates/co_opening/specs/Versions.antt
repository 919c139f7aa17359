-- The versions of the current files of nodes. Only logs of the newest version are written.
use Rattle.std.specs.Prelude.{ℕ, ◌≡◌, ◌⊎◌, List, [], Option, Some}
use Rattle.std.specs.List.{AllByRecursion}
use Rattle.co_base.specs.declared.node.Node.{Node}
use Rattle.co_outside.specs.declared.spot.Spot.{Spot}
use Rattle.co_outside.specs.Home.{File}
use Rattle.co_base.specs.Limits.{most_log_bytes}
use Rattle.co_frame.specs.LogText.{IsLogText}
use Rattle.co_record.specs.Format.{IsVersion, newest, oldest}
use Rattle.co_log.specs.Attaching.{IsWithin}
use Rattle.co_log.specs.Current.{IsCurrentOf}
use Rattle.co_log.specs.LogView.{LogView, spot_of}
use Rattle.co_log.specs.NodeFiles.{Items}
use Rattle.co_durable.specs.declared.fault.WorldFault.{WorldFault}
use Rattle.co_durable.specs.declared.fault.WorldFault.TheVariants.{Device, Differs, InUse, Bad, Full, Count, Old, Memory}
use Rattle.co_durable.specs.Durable.{Stands}
use Rattle.co_durable.specs.Nodes.{member_nodes, coord_nodes, nodes_of}
use Rattle.co_durable.specs.Pairs.{FirstWhere}
use Rattle.co_durable.specs.Recovering.{member_refuses, coord_refuses}

-- The current one of two files of a node, by its part, and its version. Where neither file has a batch it is part a, and
-- the version that of what would be written.
abbrev pub HasVersion : Node → List ℕ → List ℕ → ℕ → ℕ → Type 0
HasVersion node a b part version =
    ((part ≡ 0) × (version ≡ newest) × IsLogText a [] × IsLogText b [])
    ⊎ (((part ≡ 0) × ((generation : ℕ) × (items : Items) × IsCurrentOf node version generation a b items)) ⊎ ((part ≡ 1) × ((generation : ℕ) × (items : Items) × IsCurrentOf node version generation b a items)))

-- the current file of a node and its version, by the bytes of its files, where the directory tells them; neither file is too long
pub record IsOfVersion (file : Spot → Option File) (node : Node) (part version : ℕ) : Type 0 where
  pub a : List ℕ
  pub b : List ℕ
  pub told_a : (f : File) → file (spot_of node 0) ≡ Some f → f.bytes ≡ a
  pub told_b : (f : File) → file (spot_of node 1) ≡ Some f → f.bytes ≡ b
  pub within_a : IsWithin most_log_bytes (file (spot_of node 0))
  pub within_b : IsWithin most_log_bytes (file (spot_of node 1))
  pub current : HasVersion node a b part version

-- no file of the node has a batch, or the current one is of the newest version
abbrev pub IsNewIn : (Spot → Option File) → Node → Type 0
IsNewIn file node = (part : ℕ) × IsOfVersion file node part newest

-- the current file of the node is at this spot, and of the oldest version
abbrev pub IsOldIn : (Spot → Option File) → Spot → Node → Type 0
IsOldIn file spot node = (part : ℕ) × (spot ≡ spot_of node part) × IsOfVersion file node part oldest

-- all files are logs, whose records are allowed at their places, and this is the first current file that is of the oldest version
pub record IsFirstOld (file : Spot → Option File) (members coords : ℕ) (spot : Spot) : Type 0 where
  pub members_stand : AllByRecursion (Stands file (member_refuses coords)) (member_nodes members)
  pub coords_stand : AllByRecursion (Stands file (coord_refuses members)) (coord_nodes coords)
  pub first : FirstWhere (IsNewIn file) (IsOldIn file spot) (nodes_of members coords)

-- ---- logs in memory

abbrev pub IsVersioned : LogView → Type 0
IsVersioned log = IsVersion log.version

abbrev pub IsLatest : LogView → Type 0
IsLatest log = log.version ≡ newest

abbrev pub IsOldAt : Spot → LogView → Type 0
IsOldAt spot log = (spot ≡ log.current.spot) × (log.version ≡ oldest)

-- the first log that is of the oldest version
abbrev pub IsFirstOldLog : List LogView → WorldFault → Type 0
IsFirstOldLog logs (Device spot) = ⊥
IsFirstOldLog logs (Differs spot at kept read) = ⊥
IsFirstOldLog logs (InUse spot) = ⊥
IsFirstOldLog logs (Bad spot at) = ⊥
IsFirstOldLog logs (Full spot) = ⊥
IsFirstOldLog logs Count = ⊥
IsFirstOldLog logs (Old spot) = FirstWhere IsLatest (IsOldAt spot) logs
IsFirstOldLog logs Memory = ⊥
