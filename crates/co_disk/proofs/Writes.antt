-- What a write and a sync leave of a file that is told.
use Rattle.std.proofs.Common.{◌≡◌, ℕ, zero, suc, ◌+◌, ◌<◌, ◌≤◌, Bool, true, false, List, [], ◌∷◌, length, take, refl, sym, ◌∙◌, ap, subst, arith, map}
use Rattle.std.proofs.lemmas.Bool.Decides.{nat_tests}
use Rattle.std.specs.Prelude.{Option, Some, None, option_map, ◌||◌}
use Rattle.co_outside.specs.Home.{File, written, cleaned, IsTornFile}
use Rattle.co_outside.specs.Overlay.{overlaid}
use Rattle.co_disk.specs.DiskModel.{Write, DiskState, read_of, after_write, is_touched, any_covers, covers, IsImage, IsSound}
use Rattle.co_disk.specs.Homes.{IsImageIn}
use Rattle.co_disk.specs.Kept.{entry_of, undone}
use Rattle.co_disk.specs.declared.touched.Touched.{Touched}
use Rattle.co_disk.proofs.Gets.{length_overlaid}
use Rattle.co_disk.proofs.Images.{read_is_image, torn_image, image_before, read_more, sound_more, covered_more}
use Rattle.co_disk.proofs.Lays.{told_before}

module _ (s : DiskState) (sound : IsSound s) (file : Option File) (told : (f : File) → file ≡ Some f → f.bytes ≡ read_of s) where
  pub untouched_image : IsImageIn s file
  untouched_image f is = subst (IsImage s) (sym (told f is)) (read_is_image s sound)

  pub cleaned_image : (new : Option File) → new ≡ option_map cleaned file → IsImageIn s new
  cleaned_image new changed g is =
      let before = told_before cleaned file new g changed is in
      subst (λ (h : File). IsImage s h.bytes) before.2 (untouched_image before.0 before.1)

  module _ (at : ℕ) (piece : List ℕ) (within : at ≤ length (read_of s)) where
    pub not_written : IsImageIn (after_write s at piece) file
    not_written f is = image_before s at piece f.bytes within (untouched_image f is)

    touched : (place : ℕ) → at ≤ place → place < at + length piece → is_touched (after_write s at piece) place ≡ true
    touched place from below =
        let w : Write = record { at = at; piece = piece } in
        let here : covers place w ≡ true = grind (arith, nat_tests) in
        covered_more place s.pending w ∙ ap (λ b. any_covers place s.pending || b) here ∙ or_true (any_covers place s.pending)
      where
        or_true : (a : Bool) → a || true ≡ true
        or_true true = refl
        or_true false = refl

    long : at + length piece ≤ length (read_of (after_write s at piece))
    long = omega (arith, ap (λ (l : List ℕ). length l) (read_more s at piece), length_overlaid (read_of s) at piece within)

    pub torn_written : (new : Option File) → IsTornFile at (length piece) file new → (file ≡ None → new ≡ None) → IsImageIn (after_write s at piece) new
    torn_written new torn untold = by_file file refl
      where
        by_file : (o : Option File) → file ≡ o → IsImageIn (after_write s at piece) new
        by_file None is g now =
            let none = untold is in
            absurd (cc)
        by_file (Some f) is g now =
            let after = torn f is in
            let h : Some after.0 ≡ Some g = sym after.1 ∙ now in
            let same : after.0 ≡ g = cc in
            subst (λ (k : File). IsImage (after_write s at piece) k.bytes) same (torn_image (after_write s at piece) at (length piece) f.bytes after.0.bytes (not_written f is) long touched after.3)

    pub written_told : (new : Option File) → new ≡ option_map (written at piece) file → (g : File) → new ≡ Some g → g.bytes ≡ read_of (after_write s at piece)
    written_told new changed g is =
        let before = told_before (written at piece) file new g changed is in
        let f = before.0 in
        sym (ap (λ (h : File). h.bytes) before.2) ∙ ap (λ (b : List ℕ). overlaid b at piece) (told f before.1) ∙ sym (read_more s at piece)

    pub written_image : (new : Option File) → new ≡ option_map (written at piece) file → IsImageIn (after_write s at piece) new
    written_image new changed g is = subst (IsImage (after_write s at piece)) (sym (written_told new changed g is)) (read_is_image (after_write s at piece) (sound_more s at piece sound within))

-- a front that is shorter than what was asked for is all
pub whole_front : (n : ℕ) (xs : List ℕ) → length (take n xs) < n → take n xs ≡ xs
whole_front zero xs lt = absurd (omega arith)
whole_front (suc n) [] lt = refl
whole_front (suc n) (x ∷ xs) lt = ap (λ (l : List ℕ). x ∷ l) (whole_front n xs (omega arith))

-- no writes are taken back
pub nothing_undone : (bytes : List ℕ) (touched : List Touched) → touched ≡ [] → undone bytes (map entry_of touched) ≡ bytes
nothing_undone bytes touched none = ap (λ (ts : List Touched). undone bytes (map entry_of ts)) none
