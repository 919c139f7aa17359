-- What contracts see of a home over real files: it tells no content, and each call that it made.
use Rattle.std.specs.Prelude.{◌≡◌, ◌≢◌, ◌⊎◌, ◌^◌, ℕ, Option, None, Some, IsSome, OnOk, List, [], ◌∷◌, Result, option_map, string_bytes}
use Rattle.co_outside.specs.declared.home.HomeFault.{HomeFault}
use Rattle.co_outside.specs.declared.spot.Spot.{Spot}
use Rattle.co_outside.specs.Home.{HomeView}
use Rattle.co_files.specs.declared.call.Call.{Call}
use Rattle.co_files.specs.declared.call.Work.TheVariants.{Open, Sync, Lock, HandOn}
use Rattle.co_files.specs.declared.folder.Folder.{Folder}
use Rattle.co_files.specs.declared.home_std.HomeStd.{HomeStd}
use Rattle.co_files.specs.Calls.{did}
use Rattle.co_files.specs.Climb.{IsClimb}
use Rattle.co_files.specs.Folder.{calls_at}
use Rattle.co_files.specs.Paths.{dir_name, path_of}

abbrev pub std_seen : HomeStd → HomeView
std_seen home =
    record {
      file = λ spot. None;
      reach = λ spot. 2 ^ 65;
      entered = option_map (λ folder. string_bytes folder.name) home.folder;
      last_failed = home.last_failed;
      faults = home.faults;
      due = None;
    }

-- the calls on the file of a spot in the directory that was entered, the newest first
abbrev pub calls_in : Option Folder → Spot → List Call
calls_in None spot = []
calls_in (Some folder) spot = calls_at folder.files.items spot

-- the path of the file of a spot in that directory
abbrev pub path_in : Option Folder → Spot → List ℕ
path_in None spot = []
path_in (Some folder) spot = path_of (string_bytes folder.name) spot

-- the calls on that directory itself, the newest first
abbrev pub directory_calls : Option Folder → List Call
directory_calls None = []
directory_calls (Some folder) = folder.directory

-- The directory of this name was opened and locked, or the lock was handed on from the one before, which is the same; then it was synced, and so were those above it. No file of it was used.
abbrev pub IsEntered : List ℕ → Option Folder → Type 0
IsEntered dir None = ⊥
IsEntered dir (Some folder) =
    (folder.files.items ≡ []) × ((folder.directory ≡ did Sync ∷ did Lock ∷ did (Open (dir_name dir)) ∷ []) ⊎ (folder.directory ≡ did Sync ∷ did HandOn ∷ [])) × IsClimb folder.made dir folder.above

-- A call of the home on a spot: it is done only where a directory was entered, it makes these calls of the system on the file of the spot, and none on another file.
pub record IsAtSpot {T : Type 0} (spot : Spot) (called : List ℕ → List Call → List Call → Type 0) (old new : Option Folder) (result : Result T HomeFault) : Type 0 where
  pub entered : OnOk result (IsSome old)
  pub made : called (path_in old spot) (calls_in old spot) (calls_in new spot)
  pub others : (s : Spot) → s ≢ spot → calls_in new s ≡ calls_in old s
