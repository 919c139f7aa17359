-- Facts of images.
use Rattle.std.proofs.Common.{◌≡◌, ℕ, ◌+◌, ◌<◌, ◌≤◌, ◌⊎◌, Bool, true, false, List, [], ◌∷◌, ◌++◌, length, refl, sym, ◌∙◌, ap, inl, inr, arith}
use Rattle.std.proofs.lemmas.Bool.{cases_Bool}
use Rattle.std.proofs.lemmas.Bool.Decides.{nat_tests}
use Rattle.std.specs.Prelude.{Option, Some, None, slice_get, ◌||◌, nat_lt, nat_le}
use Rattle.co_base.specs.declared.leaves.Leaves.{Leaves}
use Rattle.co_base.specs.declared.leaves.Leaves.TheVariants.{Old, New, Filled}
use Rattle.co_outside.specs.Overlay.{overlaid, IsTorn}
use Rattle.co_disk.specs.DiskModel.{Write, DiskState, laid_over, read_of, after_write, covers, any_covers, is_touched, touched_before, or_else, left_at, IsChosen, IsImage, AreWithin, IsSound}
use Rattle.co_disk.proofs.Gets.{length_overlaid, get_before, get_behind, get_past, ends_before}

-- a write that does not cover a place leaves it
pub uncovered : (bytes : List ℕ) (w : Write) (place : ℕ) → w.at ≤ length bytes → covers place w ≡ false → slice_get (overlaid bytes w.at w.piece) place ≡ slice_get bytes place
uncovered bytes w place within not_covered = elim (cases_Bool (nat_le w.at place)) [
  | inl from ↦ get_behind bytes w.at w.piece within place (grind (arith, nat_tests))
  | inr below ↦ get_before bytes w.at w.piece within place (grind (arith, nat_tests))
]

split_or : (a b : Bool) → a || b ≡ false → (a ≡ false) × (b ≡ false)
split_or true b h = absurd (cc)
split_or false b h = (refl, h)

-- a place that no write covers is left by all of them
pub untouched_read : (bytes : List ℕ) (writes : List Write) (place : ℕ) → AreWithin bytes writes → any_covers place writes ≡ false → slice_get (laid_over bytes writes) place ≡ slice_get bytes place
untouched_read bytes [] place within none = refl
untouched_read bytes (w ∷ writes) place within none =
    let parts = split_or (covers place w) (any_covers place writes) none in
    untouched_read (overlaid bytes w.at w.piece) writes place within.1 parts.1 ∙ uncovered bytes w place within.0 parts.0

pub grows : (bytes : List ℕ) (writes : List Write) → AreWithin bytes writes → length bytes ≤ length (laid_over bytes writes)
grows bytes [] within = omega arith
grows bytes (w ∷ writes) within = omega (arith, length_overlaid bytes w.at w.piece within.0, grows (overlaid bytes w.at w.piece) writes within.1)

-- what is covered stands within what is read
pub covered_is_read : (bytes : List ℕ) (writes : List Write) (place : ℕ) → AreWithin bytes writes → any_covers place writes ≡ true → place < length (laid_over bytes writes)
covered_is_read bytes [] place within some = absurd (cc)
covered_is_read bytes (w ∷ writes) place within some = elim (cases_Bool (covers place w)) [
  | inl here ↦
      let lt : place < w.at + length w.piece = grind (arith, nat_tests) in
      omega (arith, lt, length_overlaid bytes w.at w.piece within.0, grows (overlaid bytes w.at w.piece) writes within.1)
  | inr not_here ↦ covered_is_read (overlaid bytes w.at w.piece) writes place within.1 (later not_here some)
]
  where
    later : covers place w ≡ false → covers place w || any_covers place writes ≡ true → any_covers place writes ≡ true
    later not_here h = sym (ap (λ b. b || any_covers place writes) not_here) ∙ h

-- what is read past the bytes is covered
pub grown_is_covered : (bytes : List ℕ) (writes : List Write) (place : ℕ) → AreWithin bytes writes → length bytes ≤ place → place < length (laid_over bytes writes) → any_covers place writes ≡ true
grown_is_covered bytes [] place within past lt = absurd (omega arith)
grown_is_covered bytes (w ∷ writes) place within past lt = elim (cases_Bool (covers place w)) [
  | inl here ↦ ap (λ b. b || any_covers place writes) here
  | inr not_here ↦
      let behind : w.at + length w.piece ≤ place = grind (arith, nat_tests, within.0) in
      let long : length (overlaid bytes w.at w.piece) ≤ place = omega (arith, length_overlaid bytes w.at w.piece within.0) in
      ap (λ b. b || any_covers place writes) not_here ∙ grown_is_covered (overlaid bytes w.at w.piece) writes place within.1 long lt
]

-- a read is an image
pub read_is_image : (disk : DiskState) → IsSound disk → IsImage disk (read_of disk)
read_is_image disk sound = record {
  no_shorter = grows disk.stable disk.pending sound;
  no_longer = omega arith;
  untouched = λ place lt none. untouched_read disk.stable disk.pending place sound none;
}

-- a torn write over touched places leaves an image
pub torn_image : (disk : DiskState) (at count : ℕ) (old new : List ℕ) → IsImage disk old → at + count ≤ length (read_of disk) → ((place : ℕ) → at ≤ place → place < at + count → is_touched disk place ≡ true) → IsTorn at count old new → IsImage disk new
torn_image disk at count old new image end touched torn = record {
  no_shorter = omega (arith, image.no_shorter, torn.no_shorter);
  no_longer = omega (arith, image.no_longer, torn.no_longer);
  untouched = λ place lt none. left place none ∙ image.untouched place lt none;
}
  where
    left : (place : ℕ) → is_touched disk place ≡ false → slice_get new place ≡ slice_get old place
    left place none = elim (cases_Bool (nat_lt place at)) [
      | inl below ↦ torn.before place (grind (arith, nat_tests))
      | inr from ↦ elim (cases_Bool (nat_lt place (at + count))) [
        | inl inside ↦
            let is = touched place (grind (arith, nat_tests)) (grind (arith, nat_tests)) in
            absurd (cc)
        | inr behind ↦ torn.behind place (grind (arith, nat_tests))
      ]
    ]

-- writes more are laid over last
pub laid_more : (bytes : List ℕ) (writes : List Write) (w : Write) → laid_over bytes (writes ++ w ∷ []) ≡ overlaid (laid_over bytes writes) w.at w.piece
laid_more bytes [] w = refl
laid_more bytes (v ∷ writes) w = laid_more (overlaid bytes v.at v.piece) writes w

pub within_more : (bytes : List ℕ) (writes : List Write) (w : Write) → AreWithin bytes writes → w.at ≤ length (laid_over bytes writes) → AreWithin bytes (writes ++ w ∷ [])
within_more bytes [] w within le = (le, tt)
within_more bytes (v ∷ writes) w within le = (within.0, within_more (overlaid bytes v.at v.piece) writes w within.1 le)

or_false : (a : Bool) → a || false ≡ a
or_false true = refl
or_false false = refl

or_assoc : (a b c : Bool) → a || (b || c) ≡ a || b || c
or_assoc true b c = refl
or_assoc false b c = refl

-- one write more covers what it covers itself
pub covered_more : (place : ℕ) (writes : List Write) (w : Write) → any_covers place (writes ++ w ∷ []) ≡ any_covers place writes || covers place w
covered_more place [] w = or_false (covers place w)
covered_more place (v ∷ writes) w = ap (λ b. covers place v || b) (covered_more place writes w) ∙ or_assoc (covers place v) (any_covers place writes) (covers place w)

-- an image stays one when a write more is pending
pub image_before : (disk : DiskState) (at : ℕ) (piece bytes : List ℕ) → at ≤ length (read_of disk) → IsImage disk bytes → IsImage (after_write disk at piece) bytes
image_before disk at piece bytes within image = record {
  no_shorter = image.no_shorter;
  no_longer = omega (arith, image.no_longer, ap length (laid_more disk.stable disk.pending w), length_overlaid (read_of disk) at piece within);
  untouched = λ place lt none. image.untouched place lt ((split_or (is_touched disk place) (covers place w) (sym (covered_more place disk.pending w) ∙ none)).0);
}
  where
    w : Write
    w = record { at = at; piece = piece }

-- a read of a sound disk with a write more
pub read_more : (disk : DiskState) (at : ℕ) (piece : List ℕ) → read_of (after_write disk at piece) ≡ overlaid (read_of disk) at piece
read_more disk at piece = laid_more disk.stable disk.pending (record { at = at; piece = piece })

-- a write that begins within the read keeps the disk sound
pub sound_more : (disk : DiskState) (at : ℕ) (piece : List ℕ) → IsSound disk → at ≤ length (read_of disk) → IsSound (after_write disk at piece)
sound_more disk at piece sound le = within_more disk.stable disk.pending (record { at = at; piece = piece }) sound le

-- every byte that a choice leaves stands within the read
left_within : (disk : DiskState) (leaves : Leaves) (place : ℕ) → IsSound disk → length (read_of disk) ≤ place → left_at disk leaves place ≡ None
left_within disk Old place sound past = get_past disk.stable place (omega (arith, grows disk.stable disk.pending sound))
left_within disk New place sound past = get_past (read_of disk) place past
left_within disk (Filled bytes) place sound past = elim (cases_Bool (is_touched disk place)) [
  | inl touched ↦ absurd (omega (arith, covered_is_read disk.stable disk.pending place sound touched))
  | inr untouched ↦ rw untouched (get_past disk.stable place (omega (arith, grows disk.stable disk.pending sound)))
]

-- a choice leaves a byte at each stable place
left_stable : (disk : DiskState) (leaves : Leaves) (place : ℕ) → IsSound disk → place < length disk.stable → left_at disk leaves place ≡ None → ⊥
left_stable disk Old place sound lt none = absurd (omega (arith, ends_before disk.stable place none))
left_stable disk New place sound lt none = absurd (omega (arith, ends_before (read_of disk) place none, grows disk.stable disk.pending sound))
left_stable disk (Filled bytes) place sound lt none = elim (cases_Bool (is_touched disk place)) [
  | inl touched ↦ or_none (slice_get bytes (touched_before disk place)) (sym (rw touched refl) ∙ none)
  | inr untouched ↦
      let at_stable : slice_get disk.stable place ≡ None = sym (rw untouched refl) ∙ none in
      absurd (omega (arith, ends_before disk.stable place at_stable))
]
  where
    or_none : (o : Option ℕ) → or_else o (slice_get disk.stable place) ≡ None → ⊥
    or_none (Some x) e = absurd (cc)
    or_none None e = absurd (omega (arith, ends_before disk.stable place e))

-- a choice leaves the stable byte at each untouched stable place
left_untouched : (disk : DiskState) (leaves : Leaves) (place : ℕ) → IsSound disk → is_touched disk place ≡ false → left_at disk leaves place ≡ slice_get disk.stable place
left_untouched disk Old place sound none = refl
left_untouched disk New place sound none = untouched_read disk.stable disk.pending place sound none
left_untouched disk (Filled bytes) place sound none = rw none refl

-- the bytes of a choice are an image
pub chosen_is_image : (disk : DiskState) (leaves : Leaves) (bytes : List ℕ) → IsSound disk → IsChosen disk leaves bytes → IsImage disk bytes
chosen_is_image disk leaves bytes sound chosen = record {
  no_shorter = no_shorter (cases_Bool (nat_lt (length bytes) (length disk.stable)));
  no_longer = ends_before bytes (length (read_of disk)) (chosen (length (read_of disk)) ∙ left_within disk leaves (length (read_of disk)) sound (omega arith));
  untouched = λ place lt none. chosen place ∙ left_untouched disk leaves place sound none;
}
  where
    no_shorter : (nat_lt (length bytes) (length disk.stable) ≡ true) ⊎ (nat_lt (length bytes) (length disk.stable) ≡ false) → length disk.stable ≤ length bytes
    no_shorter (inl shorter) = absurd (left_stable disk leaves (length bytes) sound (grind (arith, nat_tests)) (sym (chosen (length bytes)) ∙ get_past bytes (length bytes) (omega arith)))
    no_shorter (inr long) = grind (arith, nat_tests)
