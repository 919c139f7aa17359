-- Calls of the operating system on a file or a directory, and what their history says.
use Rattle.std.specs.Prelude.{◌≡◌, ◌⊎◌, ◌&&◌, ◌||◌, not, Bool, true, false, List, [], ◌∷◌, ℕ, Option, None, Some, Result, Ok, Err}
use Rattle.co_files.specs.declared.call.Work.{Work}
use Rattle.co_files.specs.declared.call.Work.TheVariants.{Miss, Open, Make, Read, Write, Cut, Sync, SyncName, SyncAbove, Lock, HandOn}
use Rattle.co_files.specs.declared.call.Call.{Call}

-- a call with its answer
abbrev pub called : Work → Bool → Call
called work done = record { work = work; done = done }

-- a call that was done
abbrev pub did : Work → Call
did work = called work true

-- whether one of the calls failed
abbrev pub has_failed : List Call → Bool
has_failed [] = false
has_failed (call ∷ earlier) = not call.done || has_failed earlier

-- whether this gives a directory's lock
abbrev pub gives_lock : Work → Bool
gives_lock Lock = true
gives_lock HandOn = true
gives_lock (Miss path) = false
gives_lock (Open path) = false
gives_lock (Make path) = false
gives_lock (Read bytes) = false
gives_lock (Write at piece) = false
gives_lock (Cut len) = false
gives_lock Sync = false
gives_lock SyncName = false
gives_lock (SyncAbove path) = false

-- whether the lock of a directory was taken, or handed on
abbrev pub is_held : List Call → Bool
is_held [] = false
is_held (call ∷ earlier) = (call.done && gives_lock call.work) || is_held earlier

-- whether there is a call
abbrev pub is_used : List Call → Bool
is_used [] = false
is_used (call ∷ earlier) = true

-- the calls on a directory behind a look at a path, which is noted where nothing stands there
abbrev pub looked : {T E : Type 0} → List ℕ → List Call → Result (Option T) E → List Call
looked path calls (Ok None) = did (Miss path) ∷ calls
looked path calls (Ok (Some found)) = calls
looked path calls (Err fault) = calls

-- Where the work was done, it was one call, which was done, and none before it had failed; where it was not, it was one call that failed, or none.
abbrev pub IsOneCall : {T E : Type 0} → (T → Work) → Work → List Call → List Call → Result T E → Type 0
IsOneCall work failed old new (Ok value) = (new ≡ did (work value) ∷ old) × (has_failed old ≡ false)
IsOneCall work failed old new (Err fault) = (new ≡ called failed false ∷ old) ⊎ (new ≡ old)

-- How a file is begun that this call opened or made: what an earlier process left unsynced is synced, and its name is made stable.
abbrev pub begun_by : Work → List Call
begun_by first = did SyncName ∷ did Sync ∷ did first ∷ []
