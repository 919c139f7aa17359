-- Every image is some filling.
use Rattle.std.proofs.Common.{◌≡◌, ℕ, zero, suc, ◌+◌, ◌-◌, ◌<◌, ◌≤◌, ◌⊎◌, Bool, true, false, List, [], ◌∷◌, ◌++◌, length, get_or, refl, sym, ◌∙◌, ap, subst, inl, inr, arith, length-append}
use Rattle.std.proofs.lemmas.Bool.{cases_Bool}
use Rattle.std.proofs.lemmas.Bool.Decides.{nat_tests}
use Rattle.std.proofs.lemmas.Option.{slice_get-get_or}
use Rattle.std.specs.Prelude.{Some, None, slice_get, nat_lt, if◌then◌else◌}
use Rattle.co_base.specs.declared.leaves.Leaves.TheVariants.{Filled}
use Rattle.co_disk.specs.DiskModel.{DiskState, is_touched, touched_before, left_at, IsChosen, IsImage, IsSound}
use Rattle.co_disk.proofs.Gets.{get_past, get_within, get_left, get_right}
use Rattle.co_disk.proofs.Images.{grown_is_covered}
use Rattle.co_disk.proofs.Fill.{rank_grows}

-- the bytes at the touched places among the first so many
abbrev pub gathered : DiskState → List ℕ → ℕ → List ℕ
gathered disk bytes zero = []
gathered disk bytes (suc n) = if is_touched disk n then gathered disk bytes n ++ get_or bytes n 0 ∷ [] else gathered disk bytes n

length_gathered : (disk : DiskState) (bytes : List ℕ) (n : ℕ) → length (gathered disk bytes n) ≡ touched_before disk n
length_gathered disk bytes zero = refl
length_gathered disk bytes (suc n) = either (is_touched disk n) refl (length_gathered disk bytes n)
  where
    either : (b : Bool) → is_touched disk n ≡ b → length (gathered disk bytes n) ≡ touched_before disk n → length (gathered disk bytes (suc n)) ≡ touched_before disk (suc n)
    either true is so_far = rw is (omega (arith, length-append (gathered disk bytes n) (get_or bytes n 0 ∷ []), so_far))
    either false is so_far = rw is so_far

get_gathered : (disk : DiskState) (bytes : List ℕ) (n p : ℕ) → p < n → is_touched disk p ≡ true → slice_get (gathered disk bytes n) (touched_before disk p) ≡ Some (get_or bytes p 0)
get_gathered disk bytes zero p lt touched = absurd (omega arith)
get_gathered disk bytes (suc n) p lt touched = by_place (λ less. get_gathered disk bytes n p less touched) (cases_Bool (nat_lt p n))
  where
    earlier : (p < n → slice_get (gathered disk bytes n) (touched_before disk p) ≡ Some (get_or bytes p 0)) → p < n → (b : Bool) → is_touched disk n ≡ b → slice_get (gathered disk bytes (suc n)) (touched_before disk p) ≡ Some (get_or bytes p 0)
    earlier before less true is =
        let so_far = before less in
        rw is (get_left (gathered disk bytes n) (get_or bytes n 0 ∷ []) (touched_before disk p) (get_within (gathered disk bytes n) (touched_before disk p) (get_or bytes p 0) so_far) ∙ so_far)
    earlier before less false is = rw is (before less)

    last : (is_touched disk n ≡ true) → slice_get (gathered disk bytes (suc n)) (touched_before disk n) ≡ Some (get_or bytes n 0)
    last is =
        let at : touched_before disk n ≡ length (gathered disk bytes n) + 0 = omega (arith, length_gathered disk bytes n) in
        rw is (ap (λ k. slice_get (gathered disk bytes n ++ get_or bytes n 0 ∷ []) k) at ∙ get_right (gathered disk bytes n) (get_or bytes n 0 ∷ []) 0)

    by_place : (p < n → slice_get (gathered disk bytes n) (touched_before disk p) ≡ Some (get_or bytes p 0)) → (nat_lt p n ≡ true) ⊎ (nat_lt p n ≡ false) → slice_get (gathered disk bytes (suc n)) (touched_before disk p) ≡ Some (get_or bytes p 0)
    by_place before (inl less) = earlier before (grind (arith, nat_tests)) (is_touched disk n) refl
    by_place before (inr not_less) =
        let same : n ≡ p = grind (arith, nat_tests) in
        subst (λ q. slice_get (gathered disk bytes (suc n)) (touched_before disk q) ≡ Some (get_or bytes q 0)) same (last (ap (is_touched disk) same ∙ touched))

-- an image is what its own bytes at the touched places leave
pub image_is_filled : (disk : DiskState) (bytes : List ℕ) → IsSound disk → IsImage disk bytes → IsChosen disk (Filled (gathered disk bytes (length bytes))) bytes
image_is_filled disk bytes sound image p = either (is_touched disk p) refl (cases_Bool (nat_lt p (length bytes)))
  where
    fill : List ℕ
    fill = gathered disk bytes (length bytes)

    stable_past : length bytes ≤ p → slice_get disk.stable p ≡ None
    stable_past past = get_past disk.stable p (omega (arith, image.no_shorter))

    either : (b : Bool) → is_touched disk p ≡ b → (nat_lt p (length bytes) ≡ true) ⊎ (nat_lt p (length bytes) ≡ false) → slice_get bytes p ≡ left_at disk (Filled (gathered disk bytes (length bytes))) p
    either true is (inl less) =
        let lt : p < length bytes = grind (arith, nat_tests) in
        slice_get-get_or bytes p 0 lt ∙ sym (rw is (rw (get_gathered disk bytes (length bytes) p lt is) refl))
    either true is (inr not_less) =
        let past : length bytes ≤ p = grind (arith, nat_tests) in
        let more = p - length bytes in
        let split : length bytes + more ≡ p = omega arith in
        let none : slice_get (gathered disk bytes (length bytes)) (touched_before disk p) ≡ None = get_past (gathered disk bytes (length bytes)) (touched_before disk p) (omega (arith, length_gathered disk bytes (length bytes), rank_grows disk (length bytes) more, ap (touched_before disk) split)) in
        get_past bytes p past ∙ sym (rw is (rw none (stable_past past)))
    either false is (inl less) =
        let lt : p < length bytes = grind (arith, nat_tests) in
        rw is (untouched lt (cases_Bool (nat_lt p (length disk.stable))))
      where
        untouched : p < length bytes → (nat_lt p (length disk.stable) ≡ true) ⊎ (nat_lt p (length disk.stable) ≡ false) → slice_get bytes p ≡ slice_get disk.stable p
        untouched lt (inl stable) = image.untouched p (grind (arith, nat_tests)) is
        untouched lt (inr grown) =
            let past : length disk.stable ≤ p = grind (arith, nat_tests) in
            let covered = grown_is_covered disk.stable disk.pending p sound past (omega (arith, lt, image.no_longer)) in
            absurd (cc)
    either false is (inr not_less) =
        let past : length bytes ≤ p = grind (arith, nat_tests) in
        rw is (get_past bytes p past ∙ sym (stable_past past))
