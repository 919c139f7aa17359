-- A home in memory gives and reaches what it tells.
use Rattle.std.specs.Prelude.{ℕ, ◌≡◌, nat_lt, Bool, true, false, if◌then◌else◌, List, length, take, Option, Some, None}
use Rattle.std.proofs.Common.{◌∙◌, ap}
use Rattle.co_outside.specs.declared.spot.Spot.{Spot}
use Rattle.co_outside.specs.declared.home_memory.HomeMemory.{HomeMemory}
use Rattle.co_outside.specs.Home.{File}
use Rattle.co_outside.specs.Untold.{none_is_no_file}
use Rattle.co_outside.specs.Stored.{clean_at}
use Rattle.co_outside.specs.HomeMemory.{memory_file, memory_bytes}

-- the bytes of a file, or these where there is none
bytes_or : List ℕ → Option File → List ℕ
bytes_or bytes None = bytes
bytes_or bytes (Some f) = f.bytes

-- the told bytes are those that are kept
told_bytes : (test : Bool) (kept f : File) → (if test then Some kept else None) ≡ Some f → kept.bytes ≡ f.bytes
unfolding bytes_or
told_bytes true kept f is = ap (bytes_or kept.bytes) is
told_bytes false kept f is = absurd (none_is_no_file f is)

told_kept : (h : HomeMemory) (s : Spot) (f : File) → memory_file h s ≡ Some f → memory_bytes h s ≡ f.bytes
told_kept h s f told = told_bytes (nat_lt s.part 2) (record { bytes = memory_bytes h s; clean = clean_at h.clean s }) f told

pub gives_front : (h : HomeMemory) (s : Spot) (most : ℕ) (bytes : List ℕ) (f : File) → memory_file h s ≡ Some f → bytes ≡ take most (memory_bytes h s) → bytes ≡ take most f.bytes
gives_front h s most bytes f told gives = gives ∙ ap (λ (b : List ℕ). take most b) (told_kept h s f told)

pub reaches_end : (h : HomeMemory) (s : Spot) (f : File) → memory_file h s ≡ Some f → length (memory_bytes h s) ≡ length f.bytes
reaches_end h s f told = ap (λ (b : List ℕ). length b) (told_kept h s f told)
