-- The parts of an image are laid into a file.
use Rattle.std.proofs.Common.{◌≡◌, ℕ, ◌+◌, ◌-◌, ◌<◌, ◌≤◌, ◌⊎◌, Bool, true, false, List, [], ◌∷◌, ◌++◌, length, take, drop, refl, sym, ◌∙◌, ap, subst, inl, inr, arith, length-drop}
use Rattle.std.proofs.Common.{zero, suc, map, get_or}
use Rattle.std.proofs.lemmas.List.{length-take, map-append, take_more}
use Rattle.co_disk.specs.declared.touched.Touched.{Touched}
use Rattle.co_disk.specs.Kept.{Entry, entry_of, write_of}
use Rattle.std.proofs.lemmas.Bool.{cases_Bool}
use Rattle.std.proofs.lemmas.Bool.Decides.{nat_tests}
use Rattle.std.specs.Prelude.{Option, Some, None, Result, Ok, Err, OnOk, OnErr, slice_get, max, min, nat_lt, option_map, ◌||◌}
use Rattle.co_outside.specs.Home.{File, written, IsTornFile}
use Rattle.co_outside.specs.Overlay.{overlaid}
use Rattle.co_disk.specs.DiskModel.{Write, DiskState, read_of, covers, any_covers, is_touched, IsImage}
use Rattle.co_disk.specs.Homes.{IsImageIn}
use Rattle.co_disk.specs.Laying.{IsLaidTo}
use Rattle.co_disk.proofs.Gets.{get_take, get_drop, get_inside, get_before, get_behind, overlaid_torn}
use Rattle.co_disk.proofs.Images.{torn_image, covered_more}

-- what is told after a change was told before it
pub told_before : (F : File → File) (old new : Option File) (g : File) → new ≡ option_map F old → new ≡ Some g → (f : File) × (old ≡ Some f) × (F f ≡ g)
told_before F None new g changed told =
    let h : None ≡ Some g = sym changed ∙ told in
    absurd (cc)
told_before F (Some f) new g changed told =
    let h : Some (F f) ≡ Some g = sym changed ∙ told in
    let same : F f ≡ g = cc in
    (f, refl, same)

module _ (disk : DiskState) (image : List ℕ) (w : Write) (at count : ℕ) (same_at : w.at ≡ at) (same_count : length w.piece ≡ count) (touched : (place : ℕ) → covers place w ≡ true → is_touched disk place ≡ true) (short : length image ≤ length (read_of disk)) where
  is_covered : (place : ℕ) → at ≤ place → place < at + count → covers place w ≡ true
  is_covered place from below = grind (arith, nat_tests, same_at, same_count)

  covers_from : (place : ℕ) → covers place w ≡ true → (at ≤ place) × (place < at + count)
  covers_from place covered =
      let from : w.at ≤ place = grind (arith, nat_tests) in
      let below : place < w.at + length w.piece = grind (arith, nat_tests) in
      (omega arith, omega arith)

  -- nothing of the image is in the range
  pub part_skipped : (done : List Write) (file : Option File) (reach : ℕ) → length image ≤ at → IsLaidTo disk image done file reach → IsLaidTo disk image (done ++ w ∷ []) file reach
  part_skipped done file reach past laid = record {
    images = laid.images;
    laid = λ f told place lt some. laid.laid f told place lt (by_done place lt some);
    reached = λ place lt some. laid.reached place lt (by_done place lt some);
  }
    where
      by_done : (place : ℕ) → place < length image → any_covers place (done ++ w ∷ []) ≡ true → any_covers place done ≡ true
      by_done place lt some = elim (cases_Bool (covers place w)) [
        | inl here ↦ absurd (omega (arith, (covers_from place here).0))
        | inr not_here ↦ sym (covered_more place done w ∙ ap (λ b. any_covers place done || b) not_here ∙ or_false (any_covers place done)) ∙ some
      ]
        where
          or_false : (a : Bool) → a || false ≡ a
          or_false true = refl
          or_false false = refl

  part_long : (part : List ℕ) → part ≡ take (min count (length image - at)) (drop at image) → length part ≡ min count (length image - at)
  part_long part is = ap (λ (l : List ℕ). length l) is ∙ length-take (min count (length image - at)) (drop at image) ∙ (let e : min (min count (length image - at)) (length (drop at image)) ≡ min count (length image - at) = omega (arith, length-drop at image) in e)

  in_range : (part : List ℕ) → part ≡ take (min count (length image - at)) (drop at image) → (place : ℕ) → at ≤ place → place < at + length part → is_touched disk place ≡ true
  in_range part is place from below = touched place (is_covered place from (omega (arith, part_long part is)))

  -- the part of the image in the range is laid
  pub part_laid : (done : List Write) (file new : Option File) (reach new_reach : ℕ) (part : List ℕ) → part ≡ take (min count (length image - at)) (drop at image) → at < length image → at ≤ reach → ((f : File) → file ≡ Some f → reach ≡ length f.bytes)
      → new ≡ option_map (written at part) file → max reach (at + length part) ≤ new_reach → IsLaidTo disk image done file reach → IsLaidTo disk image (done ++ w ∷ []) new new_reach
  part_laid done file new reach new_reach part is inside within told_reach changed reaches laid = record {
    images = λ g told.
        let before = told_before (written at part) file new g changed told in
        let f = before.0 in
        let whole : at ≤ length f.bytes = omega (arith, told_reach f before.1) in
        subst (λ (h : File). IsImage disk h.bytes) before.2 (torn_image disk at (length part) f.bytes (overlaid f.bytes at part) (laid.images f before.1) (omega (arith, part_long part is)) (in_range part is) (overlaid_torn f.bytes at part whole));
    laid = λ g told place lt some.
        let before = told_before (written at part) file new g changed told in
        subst (λ (h : File). slice_get h.bytes place ≡ slice_get image place) before.2 (there before.0 before.1 place lt some (cases_Bool (covers place w)));
    reached = λ place lt some. near place lt some (cases_Bool (covers place w));
  }
    where
      or_false : (a : Bool) → a || false ≡ a
      or_false true = refl
      or_false false = refl

      by_done : (place : ℕ) → any_covers place (done ++ w ∷ []) ≡ true → covers place w ≡ false → any_covers place done ≡ true
      by_done place some not_here = sym (covered_more place done w ∙ ap (λ b. any_covers place done || b) not_here ∙ or_false (any_covers place done)) ∙ some

      there : (f : File) → file ≡ Some f → (place : ℕ) → place < length image → any_covers place (done ++ w ∷ []) ≡ true → (covers place w ≡ true) ⊎ (covers place w ≡ false) → slice_get (overlaid f.bytes at part) place ≡ slice_get image place
      there f told place lt some (inl here) =
          let range = covers_from place here in
          let n = place - at in
          let whole : at ≤ length f.bytes = omega (arith, told_reach f told) in
          let split : at + n ≡ place = omega (arith, range.0) in
          let few : n < min count (length image - at) = omega (arith, range.0, range.1) in
          subst (λ p. slice_get (overlaid f.bytes at part) p ≡ slice_get image p) split
          (get_inside f.bytes at part whole n (omega (arith, part_long part is)) ∙ ap (λ (l : List ℕ). slice_get l n) is ∙ get_take (min count (length image - at)) (drop at image) n few ∙ get_drop at image n)
      there f told place lt some (inr not_here) =
          let whole : at ≤ length f.bytes = omega (arith, told_reach f told) in
          outside f whole place not_here (cases_Bool (nat_lt place at)) ∙ laid.laid f told place lt (by_done place some not_here)
        where
          outside : (f : File) → at ≤ length f.bytes → (place : ℕ) → covers place w ≡ false → (nat_lt place at ≡ true) ⊎ (nat_lt place at ≡ false) → slice_get (overlaid f.bytes at part) place ≡ slice_get f.bytes place
          outside f whole place not_here (inl less) = get_before f.bytes at part whole place (grind (arith, nat_tests))
          outside f whole place not_here (inr from) =
              let first : at ≤ place = grind (arith, nat_tests) in
              let past : at + count ≤ place = grind (arith, nat_tests, same_at, same_count) in
              get_behind f.bytes at part whole place (omega (arith, part_long part is))

      near : (place : ℕ) → place < length image → any_covers place (done ++ w ∷ []) ≡ true → (covers place w ≡ true) ⊎ (covers place w ≡ false) → place < new_reach
      near place lt some (inl here) = let range = covers_from place here in omega (arith, range.0, range.1, part_long part is)
      near place lt some (inr not_here) = omega (arith, laid.reached place lt (by_done place some not_here))

  -- a failed write leaves an image
  pub part_torn : (file new : Option File) (part : List ℕ) → part ≡ take (min count (length image - at)) (drop at image) → at < length image → IsTornFile at (length part) file new → (file ≡ None → new ≡ None) → IsImageIn disk file → IsImageIn disk new
  part_torn None new part is inside torn untold images g told =
      let h : None ≡ Some g = sym (untold refl) ∙ told in
      absurd (cc)
  part_torn (Some f) new part is inside torn untold images g told =
      let after = torn f refl in
      let h : Some after.0 ≡ Some g = sym after.1 ∙ told in
      let same : after.0 ≡ g = cc in
      subst (λ (k : File). IsImage disk k.bytes) same (torn_image disk at (length part) f.bytes after.0.bytes (images f refl) (omega (arith, part_long part is)) (in_range part is) after.3)

-- facts at a result
pub at_ok : {T E : Type 0} (result : Result T E) {A B C : Type 0} → OnOk result A → OnOk result B → (A → B → C) → OnOk result C
at_ok (Ok x) a b f = f a b
at_ok (Err e) a b f = tt

pub at_err : {T E : Type 0} (result : Result T E) {A B C : Type 0} → OnErr result A → OnErr result B → (A → B → C) → OnErr result C
at_err (Ok x) a b f = tt
at_err (Err e) a b f = f a b

writes_of : List Touched → List Write
writes_of touched = map write_of (map entry_of touched)

-- one of the writes covers a place, so some write does
pub covered_one : (place : ℕ) (touched : List Touched) (i : ℕ) (t : Touched) → i < length touched → t ≡ get_or touched i t → covers place (write_of (entry_of t)) ≡ true → any_covers place (map write_of (map entry_of touched)) ≡ true
covered_one place [] i t lt is covered = absurd (omega arith)
covered_one place (u ∷ touched) zero t lt is covered = ap (λ b. b || any_covers place (map write_of (map entry_of touched))) (ap (λ v. covers place (write_of (entry_of v))) (sym is) ∙ covered)
covered_one place (u ∷ touched) (suc i) t lt is covered = or_true (covers place (write_of (entry_of u))) _ (covered_one place touched i t (omega arith) is covered)
  where
    or_true : (a b : Bool) → b ≡ true → a || b ≡ true
    or_true true b h = refl
    or_true false b h = h

-- the writes up to the next one
pub writes_take : (touched : List Touched) (i : ℕ) (t : Touched) → i < length touched → t ≡ get_or touched i t → map write_of (map entry_of (take (i + 1) touched)) ≡ map write_of (map entry_of (take i touched)) ++ write_of (entry_of t) ∷ []
writes_take touched i t lt is =
    ap (λ (ts : List Touched). map write_of (map entry_of ts)) (take_more touched i t lt ∙ ap (λ v. take i touched ++ v ∷ []) (sym is))
    ∙ ap (λ (es : List Entry). map write_of es) (map-append entry_of (take i touched) (t ∷ []))
    ∙ map-append write_of (map entry_of (take i touched)) (entry_of t ∷ [])

-- before any part is laid
pub laid_none : (disk : DiskState) (image : List ℕ) (file : Option File) (reach : ℕ) → IsImageIn disk file → IsLaidTo disk image [] file reach
laid_none disk image file reach images = record {
  images = images;
  laid = λ f told place lt some. absurd (cc);
  reached = λ place lt some. absurd (cc);
}

-- a fact that holds anyway holds at an error
pub at_error : {T E : Type 0} (result : Result T E) (P : Type 0) → P → OnErr result P
at_error (Ok x) P holds = tt
at_error (Err e) P holds = holds
