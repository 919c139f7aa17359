-- The directory of logs in memory.
use Rattle.std.specs.Prelude.{ℕ, ◌≡◌, nat_lt, Bool, if◌then◌else◌, List, length, Option, Some, None, option_map, string_bytes}
use Rattle.co_outside.specs.declared.spot.Spot.{Spot}
use Rattle.co_outside.specs.declared.stored.Stored.{Stored}
use Rattle.co_outside.specs.declared.home_memory.HomeMemory.{HomeMemory}
use Rattle.co_outside.specs.Stored.{bytes_at, clean_at}
use Rattle.co_outside.specs.Home.{File, HomeView}

-- the file at a spot, which is told for part a and part b
abbrev pub file_of : List Stored → List Bool → Spot → Option File
file_of files marks spot = if nat_lt spot.part 2 then Some (record { bytes = bytes_at files spot; clean = clean_at marks spot }) else None

abbrev pub memory_file : HomeMemory → Spot → Option File
memory_file home spot = file_of home.files.items home.clean spot

-- the bytes at a spot, which every part has
abbrev pub memory_bytes : HomeMemory → Spot → List ℕ
memory_bytes home spot = bytes_at home.files.items spot

-- the directory that was entered last
abbrev pub memory_entered : HomeMemory → Option (List ℕ)
memory_entered home = option_map string_bytes home.entered

-- what contracts see of it: it tells all
abbrev pub memory_seen : HomeMemory → HomeView
memory_seen home =
    record {
      file = memory_file home;
      reach = λ spot. length (memory_bytes home spot);
      entered = memory_entered home;
      last_failed = home.last_failed;
      faults = home.faults;
      due = Some home.fail.items;
    }

-- the files and the directory are those from before
pub record HasSameFiles (old new : HomeMemory) : Type 0 where
  pub files : new.files.items ≡ old.files.items
  pub marks : new.clean ≡ old.clean
  pub directory : memory_entered new ≡ memory_entered old

-- the calls that are to fail, the count of faults and the last failed call are those from before
pub record HasSameCounts (old new : HomeMemory) : Type 0 where
  pub fails : new.fail.items ≡ old.fail.items
  pub faults : new.faults ≡ old.faults
  pub last_failed : new.last_failed ≡ old.last_failed
