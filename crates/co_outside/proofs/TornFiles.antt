-- What a failed write leaves of a file in memory.
use Rattle.std.proofs.Common.{◌≡◌, ℕ, ◌<◌, Bool, false, List, length, refl, sym, ◌∙◌, ap, inl, inr, arith}
use Rattle.std.proofs.lemmas.Bool.{cases_Bool}
use Rattle.std.proofs.lemmas.Bool.Decides.{nat_tests}
use Rattle.std.specs.Prelude.{Option, Some, None, Result, Ok, Err, OnErr, nat_lt, slice_get}
use Rattle.co_outside.specs.declared.spot.Spot.{Spot}
use Rattle.co_outside.specs.declared.stored.Stored.{Stored}
use Rattle.co_outside.specs.Home.{File, IsTornFile}
use Rattle.co_outside.specs.Overlay.{IsTorn}
use Rattle.co_outside.specs.Stored.{bytes_at, clean_at}
use Rattle.co_outside.specs.HomeMemory.{file_of}

-- the same bytes are torn nowhere
pub untorn : (at count : ℕ) (old new : List ℕ) → new ≡ old → IsTorn at count old new
untorn at count old new same = record {
  no_shorter = omega (arith, ap length same);
  no_longer = omega (arith, ap length same);
  before = λ place lt. ap (λ (b : List ℕ). slice_get b place) same;
  behind = λ place le. ap (λ (b : List ℕ). slice_get b place) same;
}

-- the same bytes, not clean
pub not_laid : (files new_files : List Stored) (marks new_marks : List Bool) (spot : Spot) (at count : ℕ) → bytes_at new_files spot ≡ bytes_at files spot → (spot.part < 2 → clean_at new_marks spot ≡ false) → IsTornFile at count (file_of files marks spot) (file_of new_files new_marks spot)
not_laid files new_files marks new_marks spot at count same marked before told = elim (cases_Bool (nat_lt spot.part 2)) [
  | inl told_part ↦
      let part : spot.part < 2 = grind (arith, nat_tests) in
      let kept : File = record { bytes = bytes_at files spot; clean = clean_at marks spot } in
      let after : File = record { bytes = bytes_at new_files spot; clean = clean_at new_marks spot } in
      let is : Some kept ≡ Some before = sym (rw told_part refl) ∙ told in
      let bytes : bytes_at files spot ≡ before.bytes = ap (λ (o : Option File). bytes_or kept o) is in
      (after, rw told_part refl, marked part, untorn at count before.bytes after.bytes (same ∙ bytes))
  | inr untold ↦
      let none : None ≡ Some before = sym (rw untold refl) ∙ told in
      absurd (cc)
]
  where
    bytes_or : File → Option File → List ℕ
    bytes_or kept None = kept.bytes
    bytes_or kept (Some f) = f.bytes

-- a fact that holds anyway holds at an error
pub at_error : {T E : Type 0} (result : Result T E) (P : Type 0) → P → OnErr result P
at_error (Ok x) P holds = tt
at_error (Err e) P holds = holds
