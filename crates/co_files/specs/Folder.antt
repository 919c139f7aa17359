-- What the calls of a home leave in the histories of its files.
use Rattle.std.specs.Prelude.{ℕ, ◌≡◌, ◌⊎◌, ◌==◌, ◌&&◌, Bool, true, false, if◌then◌else◌, List, [], ◌∷◌, Result, OnOk}
use Rattle.co_outside.specs.declared.spot.Spot.{Spot}
use Rattle.co_files.specs.declared.call.Work.{Work}
use Rattle.co_files.specs.declared.call.Work.TheVariants.{Miss, Open, Make}
use Rattle.co_files.specs.declared.call.Call.{Call}
use Rattle.co_files.specs.declared.log_file.LogFile.{LogFile}
use Rattle.co_files.specs.Calls.{did, begun_by, IsOneCall}

-- whether it is the file of the spot
abbrev pub is_of : Spot → LogFile → Bool
is_of spot log = (log.spot.node == spot.node) && (log.spot.part == spot.part)

-- the calls on the file of a spot, the newest first; none where it was not used
abbrev pub calls_at : List LogFile → Spot → List Call
calls_at [] spot = []
calls_at (log ∷ rest) spot = if is_of spot log then log.file else calls_at rest spot

-- The file is as it was, or this is its first use: then it was opened at its path, or, where it may be made, made there.
abbrev pub IsAttended : List ℕ → Bool → List Call → List Call → Type 0
IsAttended path makes old new = (new ≡ old) ⊎ ((old ≡ []) × ((new ≡ begun_by (Open path)) ⊎ ((makes ≡ true) × (new ≡ begun_by (Make path)))))

-- one call on the file, which is attended to first
abbrev pub IsCallAt : {T E : Type 0} → List ℕ → Bool → (T → Work) → Work → List Call → List Call → Result T E → Type 0
IsCallAt path makes work failed old new result = (first : List Call) × IsAttended path makes old first × IsOneCall work failed first new result

-- the same, or there is no file, which needs none: then the last call on the directory looked for it and found nothing
abbrev pub IsCallOrNone : {T E : Type 0} → List ℕ → (T → Work) → Work → List Call → List Call → List Call → List Call → Result T E → Type 0
IsCallOrNone path work failed before after old new result =
    IsCallAt path false work failed old new result ⊎ ((old ≡ []) × (new ≡ []) × OnOk result (after ≡ did (Miss path) ∷ before))
