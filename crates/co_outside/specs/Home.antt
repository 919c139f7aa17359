-- What the calls of a home leave.
use Rattle.std.specs.Prelude.{ℕ, ◌-◌, ◌≤◌, ◌≡◌, ◌≢◌, ◌==◌, ◌&&◌, ◌↔◌, if◌then◌else◌, Some, IsSome, Bool, true, false, List, [], take, length, map, Contains, Option, Result, IsErrOf}
use Rattle.co_outside.specs.declared.spot.Spot.{Spot}
use Rattle.co_outside.specs.declared.home.FailAt.{FailAt}
use Rattle.co_outside.specs.declared.home.HomeCall.{HomeCall}
use Rattle.co_outside.specs.declared.home.HomeCall.TheVariants.{Enter, ReadAll, WriteAt, SetLen, Sync}
use Rattle.co_outside.specs.declared.home.HomeFault.{HomeFault}
use Rattle.co_outside.specs.declared.home.HomeFault.TheVariants.{Failed}
use Rattle.co_outside.specs.Faults.{HasRisen}
use Rattle.co_outside.specs.Overlay.{overlaid, IsTorn}

-- a file: its bytes, and whether it is clean, that is, stable since its last change
pub record File : Type 0 where
  pub bytes : List ℕ
  pub clean : Bool

-- an absent file is empty
abbrev pub empty_file : File
empty_file = record { bytes = []; clean = true }

-- the file with a piece laid in; it is not clean then
abbrev pub written : ℕ → List ℕ → File → File
written at piece file = record { bytes = overlaid file.bytes at piece; clean = false }

-- the file cut to a length; it is not clean then
abbrev pub shortened : ℕ → File → File
shortened len file = record { bytes = take len file.bytes; clean = false }

-- the same bytes, not clean
abbrev pub unclean : File → File
unclean file = record { bytes = file.bytes; clean = false }

-- the same bytes, clean
abbrev pub cleaned : File → File
cleaned file = record { bytes = file.bytes; clean = true }

-- what a failed write leaves of a file that is told: it is told, torn and not clean
abbrev pub IsTornFile : ℕ → ℕ → Option File → Option File → Type 0
IsTornFile at count old new = (before : File) → old ≡ Some before → (after : File) × (new ≡ Some after) × (after.clean ≡ false) × IsTorn at count before.bytes after.bytes

-- What contracts see of a home: the file at each spot, where the home tells it; how far each file reaches, which is its
-- length, or, where the home tells nothing, a length within which it takes a write without memory; the directory that was
-- entered last; the spot of the last failed call; how often the home has failed; and the calls that are to fail, where the
-- home tells them.
pub record HomeView : Type 0 where
  pub file : Spot → Option File
  pub reach : Spot → ℕ
  pub entered : Option (List ℕ)
  pub last_failed : Spot
  pub faults : ℕ
  pub due : Option (List FailAt)

-- the home's file is these bytes, where the home tells it, and it takes writes within them without memory
pub record Agrees (home : HomeView) (spot : Spot) (bytes : List ℕ) : Type 0 where
  pub told : (f : File) → home.file spot ≡ Some f → f.bytes ≡ bytes
  pub room : length bytes ≤ home.reach spot

-- the home's file is clean, where the home tells it
abbrev pub IsClean : HomeView → Spot → Type 0
IsClean home spot = (f : File) → home.file spot ≡ Some f → f.clean ≡ true

-- the files at all other spots stay as they were, and the directory stays entered
pub record OthersStay (spot : Spot) (old new : HomeView) : Type 0 where
  pub files : (s : Spot) → s ≢ spot → new.file s ≡ old.file s
  pub reaches : (s : Spot) → s ≢ spot → new.reach s ≡ old.reach s
  pub directory : new.entered ≡ old.entered

-- Everything else of the home stays: the other files, the directory, and whether this file is told.
-- The count of faults never falls.
pub record RestStays (spot : Spot) (old new : HomeView) : Type 0 where
  pub others : OthersStay spot old new
  pub count : old.faults ≤ new.faults
  pub told : (f : File) → old.file spot ≡ Some f → IsSome (new.file spot)

-- the home failed in this call, at this spot
pub record HasFailed (spot : Spot) (old new : HomeView) : Type 0 where
  pub count : HasRisen old.faults new.faults
  pub named : new.last_failed ≡ spot

-- The count of faults never falls. Where the call failed the count rose, and the call's spot is that
-- of the last failed call; with any other answer both are as they were.
pub record IsCounted {T : Type 0} (spot : Spot) (old new : HomeView) (result : Result T HomeFault) : Type 0 where
  pub count : old.faults ≤ new.faults
  pub failed : IsErrOf result Failed → HasRisen old.faults new.faults
  pub named : IsErrOf result Failed → new.last_failed ≡ spot
  pub quiet : (IsErrOf result Failed → ⊥) → new.faults ≡ old.faults
  pub kept : (IsErrOf result Failed → ⊥) → new.last_failed ≡ old.last_failed

-- the kinds of calls, numbered
abbrev pub call_number : HomeCall → ℕ
call_number Enter = 0
call_number ReadAll = 1
call_number WriteAt = 2
call_number SetLen = 3
call_number Sync = 4

-- whether a call that is to fail is of this kind and on this spot
abbrev pub is_such : Spot → HomeCall → FailAt → Bool
is_such spot call at = ((at.spot.node == spot.node) && (at.spot.part == spot.part)) && (call_number at.call == call_number call)

-- a call that is to fail, after one call of this kind on this spot: where it is such a call, there is one less until it
abbrev pub nearer : Spot → HomeCall → FailAt → FailAt
nearer spot call at = if is_such spot call at then record { spot = at.spot; call = at.call; number = at.number - 1 } else at

-- Where a home tells which calls are to fail, one fails exactly where it is the next of them, and it is counted.
abbrev pub FailsAsDue : {T : Type 0} → Spot → HomeCall → HomeView → HomeView → Result T HomeFault → Type 0
FailsAsDue spot call old new result =
    (calls : List FailAt) → old.due ≡ Some calls
    → (IsErrOf result Failed ↔ Contains calls (record { spot = spot; call = call; number = 1 })) × (new.due ≡ Some (map (nearer spot call) calls))
