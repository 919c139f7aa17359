-- The directories above one, each made stable in that above it.
use Rattle.std.specs.Prelude.{ℕ, ◌≡◌, ◌≤◌, ◌⊎◌, Option, None, Some, false, List, [], ◌∷◌, length}
use Rattle.std.specs.Path.{path_parent}
use Rattle.co_files.specs.declared.call.Work.TheVariants.{SyncAbove}
use Rattle.co_files.specs.declared.call.Call.{Call}
use Rattle.co_files.specs.Calls.{called, did}
use Rattle.co_files.specs.Paths.{dir_name}

-- the directory above, where there is a path that has one
abbrev pub parent_of : Option (List ℕ) → Option (List ℕ)
parent_of None = None
parent_of (Some path) = path_parent path

-- the directory above this one that comes next, behind these calls
abbrev pub next_above : List ℕ → List Call → Option (List ℕ)
next_above dir [] = path_parent dir
next_above dir (call ∷ earlier) = parent_of (next_above dir earlier)

-- Each call is a sync of the next directory above. One below which nothing was missing may fail.
abbrev pub IsAbove : ℕ → List ℕ → List Call → Type 0
IsAbove missing dir [] = Unit {0}
IsAbove missing dir (call ∷ earlier) =
    ((path : List ℕ) × (next_above dir earlier ≡ Some path) × ((call ≡ did (SyncAbove (dir_name path))) ⊎ ((missing ≤ length earlier) × (call ≡ called (SyncAbove (dir_name path)) false))))
    × IsAbove missing dir earlier

-- Each directory that was made with this one is stable in that above it, as many as were missing, and so are those above them, up to an end of the climb.
abbrev pub IsClimb : ℕ → List ℕ → List Call → Type 0
IsClimb missing dir calls = IsAbove missing dir calls × ((missing ≤ length calls) ⊎ (next_above dir calls ≡ None))
