-- A chosen image stands whole in the home.
use Rattle.std.proofs.Common.{◌≡◌, ◌⊎◌, inl, inr, ℕ, zero, suc, ◌+◌, ◌<◌, ◌≤◌, Bool, true, false, List, [], ◌∷◌, ◌++◌, length, map, take, refl, sym, ◌∙◌, ap, subst, arith}
use Rattle.std.proofs.lemmas.Bool.{cases_Bool}
use Rattle.std.proofs.lemmas.Bool.Decides.{nat_tests}
use Rattle.std.specs.Prelude.{Option, Some, None, Result, Ok, Err, OnOk, OnErr, ◌||◌, nat_lt, slice_get, option_map, IfSome, All}
use Rattle.co_outside.specs.Home.{File, shortened, unclean, cleaned}
use Rattle.co_outside.specs.Overlay.{overlaid}
use Rattle.co_base.specs.declared.leaves.Leaves.{Leaves}
use Rattle.co_disk.specs.DiskModel.{Write, DiskState, IsChosen, any_covers, covers, is_touched, laid_over, read_of, after_write, IsImage, IsSound, AreWithin}
use Rattle.co_disk.specs.Homes.{IsImageIn}
use Rattle.co_disk.specs.Laying.{IsLaidTo, IsToLay, BeginWithin, EndWithin}
use Rattle.co_disk.proofs.Gets.{get_take, get_past, length_take, same_everywhere, length_overlaid}
use Rattle.co_disk.proofs.Images.{grown_is_covered, grows, chosen_is_image}
use Rattle.co_disk.proofs.Lays.{told_before}
use Rattle.co_disk.specs.Kept.{Entry, entries, entry_of, write_of, state_of, undone, IsKept}
use Rattle.co_disk.specs.declared.touched.FirstByte.{FirstByte}
use Rattle.co_disk.specs.declared.touched.Touched.{Touched}

-- the first byte was written before the others
pub writes_apart : (first : Option FirstByte) (touched : List Touched) → map write_of (entries first touched) ≡ map write_of (entries first []) ++ map write_of (map entry_of touched)
writes_apart None touched = refl
writes_apart (Some f) touched = refl

covered_left : (place : ℕ) (xs ys : List Write) → any_covers place xs ≡ true → any_covers place (xs ++ ys) ≡ true
covered_left place [] ys some = absurd (cc)
covered_left place (w ∷ xs) ys some = either (covered_left place xs ys) (covers place w) some
  where
    either : (any_covers place xs ≡ true → any_covers place (xs ++ ys) ≡ true) → (b : Bool) → b || any_covers place xs ≡ true → b || any_covers place (xs ++ ys) ≡ true
    either rest true h = refl
    either rest false h = rest h

covered_right : (place : ℕ) (xs ys : List Write) → any_covers place ys ≡ true → any_covers place (xs ++ ys) ≡ true
covered_right place [] ys some = some
covered_right place (w ∷ xs) ys some = either (covered_right place xs ys some) (covers place w)
  where
    either : any_covers place (xs ++ ys) ≡ true → (b : Bool) → b || any_covers place (xs ++ ys) ≡ true
    either rest true = refl
    either rest false = rest

module _ (disk : DiskState) (first : Option FirstByte) (touched : List Touched) (pending : disk.pending ≡ map write_of (entries first touched)) where
  pub apart : disk.pending ≡ map write_of (entries first []) ++ map write_of (map entry_of touched)
  apart = pending ∙ writes_apart first touched

  pub first_touches : (place : ℕ) → any_covers place (map write_of (entries first [])) ≡ true → is_touched disk place ≡ true
  first_touches place some = ap (λ (ws : List Write). any_covers place ws) apart ∙ covered_left place (map write_of (entries first [])) (map write_of (map entry_of touched)) some

  pub others_touch : (place : ℕ) → any_covers place (map write_of (map entry_of touched)) ≡ true → is_touched disk place ≡ true
  others_touch place some = ap (λ (ws : List Write). any_covers place ws) apart ∙ covered_right place (map write_of (entries first [])) (map write_of (map entry_of touched)) some

begin_each : (touched : List Touched) (reach : ℕ) → BeginWithin reach (map write_of (map entry_of touched)) → All (λ t. t.at ≤ reach) touched
begin_each [] reach begins k t lt = absurd (omega arith)
begin_each (u ∷ touched) reach begins zero t lt = begins.0
begin_each (u ∷ touched) reach begins (suc k) t lt = begin_each touched reach begins.1 k t (omega arith)

pub begin_others : (first : Option FirstByte) (touched : List Touched) (reach : ℕ) → BeginWithin reach (map write_of (entries first touched)) → All (λ t. t.at ≤ reach) touched
begin_others None touched reach begins = begin_each touched reach begins
begin_others (Some f) touched reach begins = begin_each touched reach begins.1

pub end_first : (first : Option FirstByte) (touched : List Touched) (reach : ℕ) → EndWithin reach (map write_of (entries first touched)) → IfSome first (λ f. f.at + 1 ≤ reach)
end_first None touched reach ends = tt
end_first (Some f) touched reach ends = ends.0

end_each : (touched : List Touched) (reach : ℕ) → EndWithin reach (map write_of (map entry_of touched)) → All (λ t. t.at + length t.piece.items ≤ reach) touched
end_each [] reach ends k t lt = absurd (omega arith)
end_each (u ∷ touched) reach ends zero t lt = ends.0
end_each (u ∷ touched) reach ends (suc k) t lt = end_each touched reach ends.1 k t (omega arith)

pub end_others : (first : Option FirstByte) (touched : List Touched) (reach : ℕ) → EndWithin reach (map write_of (entries first touched)) → All (λ t. t.at + length t.piece.items ≤ reach) touched
end_others None touched reach ends = end_each touched reach ends
end_others (Some f) touched reach ends = end_each touched reach ends.1

-- the pending writes end within what is read
pub all_end : (bytes : List ℕ) (writes : List Write) (reach : ℕ) → AreWithin bytes writes → length (laid_over bytes writes) ≤ reach → EndWithin reach writes
all_end bytes [] reach within le = tt
all_end bytes (w ∷ writes) reach within le = (omega (arith, length_overlaid bytes w.at w.piece within.0, grows (overlaid bytes w.at w.piece) writes within.1), all_end (overlaid bytes w.at w.piece) writes reach within.1 le)

pub all_begin : (writes : List Write) (reach : ℕ) → EndWithin reach writes → BeginWithin reach writes
all_begin [] reach ends = tt
all_begin (w ∷ writes) reach ends = (omega (arith, ends.0), all_begin writes reach ends.1)

pub begin_more : (writes : List Write) (w : Write) (reach : ℕ) → BeginWithin reach writes → w.at ≤ reach → BeginWithin reach (writes ++ w ∷ [])
begin_more [] w reach begins le = (le, tt)
begin_more (v ∷ writes) w reach begins le = (begins.0, begin_more writes w reach begins.1 le)

module _ (disk : DiskState) (sound : IsSound disk) (image : List ℕ) (is_image : IsImage disk image) (file : Option File) (reach : ℕ) (stable : length disk.stable ≤ reach) (laid : IsLaidTo disk image disk.pending file reach) where
  -- the home reaches to the end of the image
  pub image_reached : length image ≤ reach
  image_reached = by_place (cases_Bool (nat_lt reach (length image)))
    where
      by_place : (nat_lt reach (length image) ≡ true) ⊎ (nat_lt reach (length image) ≡ false) → length image ≤ reach
      by_place (inl more) =
          let lt : reach < length image = grind (arith, nat_tests) in
          let covered = grown_is_covered disk.stable disk.pending reach sound stable (omega (arith, lt, is_image.no_longer)) in
          absurd (omega (arith, laid.reached reach lt covered))
      by_place (inr within) = grind (arith, nat_tests)

  -- cut to its length, the file is the image
  cut_is : (f : File) → file ≡ Some f → reach ≡ length f.bytes → take (length image) f.bytes ≡ image
  cut_is f told whole = same_everywhere _ _ (λ place. at_place place (cases_Bool (nat_lt place (length image))))
    where
      untouched : (place : ℕ) → place < length image → any_covers place disk.pending ≡ false → (nat_lt place (length disk.stable) ≡ true) ⊎ (nat_lt place (length disk.stable) ≡ false) → slice_get f.bytes place ≡ slice_get image place
      untouched place lt none (inl less) =
          let old : place < length disk.stable = grind (arith, nat_tests) in
          (laid.images f told).untouched place old none ∙ sym (is_image.untouched place old none)
      untouched place lt none (inr not_less) =
          let past : length disk.stable ≤ place = grind (arith, nat_tests) in
          let covered = grown_is_covered disk.stable disk.pending place sound past (omega (arith, lt, is_image.no_longer)) in
          absurd (cc)

      there : (place : ℕ) → place < length image → (any_covers place disk.pending ≡ true) ⊎ (any_covers place disk.pending ≡ false) → slice_get f.bytes place ≡ slice_get image place
      there place lt (inl some) = laid.laid f told place lt some
      there place lt (inr none) = untouched place lt none (cases_Bool (nat_lt place (length disk.stable)))

      at_place : (place : ℕ) → (nat_lt place (length image) ≡ true) ⊎ (nat_lt place (length image) ≡ false) → slice_get (take (length image) f.bytes) place ≡ slice_get image place
      at_place place (inl less) =
          let lt : place < length image = grind (arith, nat_tests) in
          get_take (length image) f.bytes place lt ∙ there place lt (cases_Bool (any_covers place disk.pending))
      at_place place (inr not_less) =
          let past : length image ≤ place = grind (arith, nat_tests) in
          let long = length_take (length image) f.bytes (omega (arith, whole, image_reached)) in
          get_past (take (length image) f.bytes) place (omega (arith, long)) ∙ sym (get_past image place past)

  module _ (told_reach : (f : File) → file ≡ Some f → reach ≡ length f.bytes) (new : Option File) where
    pub shortened_told : new ≡ option_map (shortened (length image)) file → (g : File) → new ≡ Some g → g.bytes ≡ image
    shortened_told changed g is =
        let before = told_before (shortened (length image)) file new g changed is in
        sym (ap (λ (h : File). h.bytes) before.2) ∙ cut_is before.0 before.1 (told_reach before.0 before.1)

    pub shortened_image : new ≡ option_map (shortened (length image)) file → IsImageIn disk new
    shortened_image changed g is = subst (λ (b : List ℕ). IsImage disk b) (sym (shortened_told changed g is)) is_image

    pub unclean_image : new ≡ option_map unclean file → IsImageIn disk new
    unclean_image changed g is =
        let before = told_before unclean file new g changed is in
        subst (λ (h : File). IsImage disk h.bytes) before.2 (laid.images before.0 before.1)

-- the synced file
pub cleaned_told : (image : List ℕ) (file new : Option File) → ((g : File) → file ≡ Some g → g.bytes ≡ image) → new ≡ option_map cleaned file → (g : File) → new ≡ Some g → (g.bytes ≡ image) × (g.clean ≡ true)
cleaned_told image file new told changed g is =
    let before = told_before cleaned file new g changed is in
    (sym (ap (λ (h : File). h.bytes) before.2) ∙ told before.0 before.1, sym (ap (λ (h : File). h.clean) before.2))

-- a sync leaves an image one, whatever its answer is
pub synced_image : {T E : Type 0} (result : Result T E) (disk : DiskState) (file new : Option File) → IsImageIn disk file → OnOk result (new ≡ option_map cleaned file) → OnErr result (new ≡ file) → IsImageIn disk new
synced_image (Ok x) disk file new images changed stays g is =
    let before = told_before cleaned file new g changed is in
    subst (λ (h : File). IsImage disk h.bytes) before.2 (images before.0 before.1)
synced_image (Err e) disk file new images changed stays g is = images g (sym stays ∙ is)

-- the chosen image of what is kept can be laid
pub to_lay : (bytes image : List ℕ) (es : List Entry) (leaves : Leaves) (file : Option File) (reach : ℕ) → IsKept bytes es → IsChosen (state_of bytes es) leaves image → length (undone bytes es) ≤ reach → BeginWithin reach (map write_of es) → IsImageIn (state_of bytes es) file
    → IsToLay (state_of bytes es) image (map write_of es) file reach
to_lay bytes image es leaves file reach kept chosen stable begins images =
    let is_image = chosen_is_image (state_of bytes es) leaves image kept.sound chosen in
    record {
      pending = refl;
      sound = kept.sound;
      image_is = is_image;
      short = omega (arith, is_image.no_longer, ap length kept.read, kept.short);
      stable = stable;
      begins = begins;
      images = images;
    }

-- what stands after a choice is kept, with nothing pending
pub kept_after : (bytes image : List ℕ) (es : List Entry) (leaves : Leaves) → IsKept bytes es → IsChosen (state_of bytes es) leaves image → IsKept image []
kept_after bytes image es leaves kept chosen =
    let is_image = chosen_is_image (state_of bytes es) leaves image kept.sound chosen in
    record { read = refl; sound = tt; fit = tt; short = omega (arith, is_image.no_longer, ap length kept.read, kept.short) }

-- where a home reaches to the end of what is read, the writes end within what it reaches
module _ (disk : DiskState) (sound : IsSound disk) (reach : ℕ) (room : length (read_of disk) ≤ reach) where
  pub stable_reached : length disk.stable ≤ reach
  stable_reached = omega (arith, grows disk.stable disk.pending sound)

  pub ends_reached : EndWithin reach disk.pending
  ends_reached = all_end disk.stable disk.pending reach sound room

  pub begins_reached : BeginWithin reach disk.pending
  begins_reached = all_begin disk.pending reach ends_reached

  pub begins_written : (at : ℕ) (piece : List ℕ) → at ≤ length (read_of disk) → BeginWithin reach (after_write disk at piece).pending
  begins_written at piece within = begin_more disk.pending (record { at = at; piece = piece }) reach begins_reached (omega arith)
