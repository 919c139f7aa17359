-- Files without a batch, and gates that are closed.
use Rattle.std.proofs.Common.{◌≡◌, ◌≢◌, ◌⊎◌, ℕ, ◌+◌, ◌≤◌, Bool, true, false, List, [], ◌∷◌, ◌++◌, length, refl, sym, ap, subst, ◌∙◌, arith, inl, inr}
use Rattle.std.specs.Prelude.{Option, None, Some, not, ◌==◌, ◌&&◌, ◌||◌, nat_le, nat_lt, slice_get}
use Rattle.std.proofs.lemmas.Bool.{cases_Bool, cases_lt}
use Rattle.co_base.specs.declared.leaves.Leaves.{Leaves}
use Rattle.co_base.specs.declared.leaves.Leaves.TheVariants.{Old, New, Filled}
use Rattle.co_outside.specs.Overlay.{overlaid}
use Rattle.co_disk.specs.DiskModel.{DiskState, IsImage, IsChosen, left_at, read_of, stable_disk, after_write, after_sync}
use Rattle.co_disk.proofs.Gets.{length_overlaid, get_past}
use Rattle.co_disk.proofs.Images.{chosen_is_image}
use Rattle.co_frame.specs.LogText.{IsLogText, gated, open_gate}
use Rattle.co_frame.proofs.Texts.{hides}
use Rattle.co_record.specs.declared.record.Record.{Record}
use Rattle.co_frame.specs.Gate.{begins_closed, closes_spare}
use Rattle.co_log.specs.LogFile.{EndsAt, OldOrBoth, placed_from, spelled}
use Rattle.co_log.specs.Spare.{IsSpareImage}
use Rattle.co_log.specs.Fresh.{IsMaking}
use Rattle.co_log.proofs.Stops.{all_stable}
use Rattle.co_log.proofs.Files.{one_byte}

not_open : (b : ℕ) → not (b == open_gate) ≡ true → b ≢ open_gate
not_open b e same = absurd (let h : false ≡ true = sym (ap (λ (x : ℕ). not (x == open_gate)) same) ∙ e in cc)

-- a file whose first gate is not open ends there
pub ends_at_once : (bytes : List ℕ) → begins_closed bytes ≡ true → EndsAt bytes 0 []
ends_at_once [] e = absurd (cc)
ends_at_once (b ∷ bytes) e = record { batches = []; text = record { each = tt; gate = b; rest = bytes; closed = not_open b e; text = refl }; place = refl; holds = refl }

-- a file without a batch and without a closed gate has at most one byte
pub short_unmade : (bytes : List ℕ) → IsLogText bytes [] → begins_closed bytes ≡ false → length bytes ≤ 1
short_unmade bytes text e = elim text [
  | inl a ↦ a.0
  | inr a ↦
      let opens : (a.1.gate == open_gate) ≡ true = negated (a.1.gate == open_gate) (sym (ap begins_closed a.1.text) ∙ e) in
      absurd (a.1.closed (is_open a.1.gate opens))
]
  where
    negated : (b : Bool) → not b ≡ false → b ≡ true
    negated true e = refl
    negated false e = absurd (cc)

    is_open : (x : ℕ) → (x == open_gate) ≡ true → x ≡ open_gate
    is_open x e = grind arith

-- after the first gate is closed
pub closed_first : (bytes : List ℕ) → EndsAt (overlaid bytes 0 (0 ∷ [])) 0 []
closed_first bytes = ends_at_once (overlaid bytes 0 (0 ∷ [])) refl

pub closed_disk : (old new : DiskState) → old.pending ≡ [] → new ≡ after_sync (after_write old 0 (0 ∷ [])) → EndsAt new.stable 0 []
closed_disk old new still e =
    let whole : new.stable ≡ overlaid old.stable 0 (0 ∷ []) = ap (λ (d : DiskState). d.stable) e ∙ ap (λ (d : DiskState). read_of (after_write d 0 (0 ∷ []))) (all_stable old still) in
    subst (λ (b : List ℕ). EndsAt b 0 []) (sym whole) (closed_first old.stable)

-- an image of a file of at most one byte whose first place is written has at most one byte
pub short_image : (old : DiskState) (image : List ℕ) → old.pending ≡ [] → length old.stable ≤ 1 → IsImage (after_write old 0 (0 ∷ [])) image → length image ≤ 1
short_image old image still short i =
    let j : IsImage (after_write (stable_disk old.stable) 0 (0 ∷ [])) image = subst (λ (d : DiskState). IsImage (after_write d 0 (0 ∷ [])) image) (all_stable old still) i in
    omega (arith, j.no_longer, length_overlaid old.stable 0 (0 ∷ []) (omega arith), short)

-- what reads of a stable disk give
pub read_stable : (old : DiskState) → old.pending ≡ [] → read_of old ≡ old.stable
read_stable old still = ap (λ (d : DiskState). read_of d) (all_stable old still)

-- ---- spares

first_closed : Option ℕ → Bool
first_closed None = false
first_closed (Some b) = not (b == open_gate)

by_first : (bytes : List ℕ) → begins_closed bytes ≡ first_closed (slice_get bytes 0)
unfolding first_closed
by_first [] = refl
by_first (b ∷ bytes) = refl

-- whether the chosen image of a spare that is being closed is closed
pub closed_by : (old image : List ℕ) (leaves : Leaves) → begins_closed old ≡ false → IsChosen (after_write (stable_disk old) 0 (0 ∷ [])) leaves image → begins_closed image ≡ closes_spare leaves
unfolding first_closed
closed_by old image leaves unclosed chosen = by_first image ∙ ap first_closed (chosen 0) ∙ each leaves
  where
    each : (l : Leaves) → first_closed (let d = after_write (stable_disk old) 0 (0 ∷ []) in left_at d l 0) ≡ closes_spare l
    each Old = sym (by_first old) ∙ unclosed
    each New = refl
    each (Filled []) = sym (by_first old) ∙ unclosed
    each (Filled (b ∷ bytes)) = refl

at_open : (old image : List ℕ) (x o : ℕ) (rest : List ℕ) → begins_closed (o ∷ rest) ≡ false → old ≡ o ∷ rest → image ≡ x ∷ rest → (image ≡ old) ⊎ ((begins_closed image ≡ true) ⊎ (length image ≤ 1))
at_open old image x o rest unclosed is e = elim (cases_open x) [
  | inl shut ↦ inr (inl (ap begins_closed e ∙ shut))
  | inr opens ↦ inl (e ∙ ap (λ (b : ℕ). b ∷ rest) (is_open x opens ∙ sym (is_open o (negated (o == open_gate) unclosed))) ∙ sym is)
]
  where
    cases_open : (y : ℕ) → (not (y == open_gate) ≡ true) ⊎ ((y == open_gate) ≡ true)
    cases_open y = elim (y == open_gate) as (λ b. (not b ≡ true) ⊎ (b ≡ true)) [ true ↦ inr refl | false ↦ inl refl ]

    negated : (b : Bool) → not b ≡ false → b ≡ true
    negated true h = refl
    negated false h = absurd (cc)

    is_open : (y : ℕ) → (y == open_gate) ≡ true → y ≡ open_gate
    is_open y h = grind arith

-- every image of a spare that is being closed
pub spare_images : (old image : List ℕ) → begins_closed old ≡ false → IsImage (after_write (stable_disk old) 0 (0 ∷ [])) image → IsSpareImage old image
spare_images [] image unclosed i = (inr (inr (omega (arith, i.no_longer))), omega (arith, i.no_longer))
spare_images (o ∷ rest) image unclosed i =
    let found = one_byte [] rest image o (omega (arith, i.no_shorter, i.no_longer)) (λ place other. same place other) in
    (at_open (o ∷ rest) image found.0 o rest unclosed refl found.1, omega (arith, i.no_longer))
  where
    or_none : (b : Bool) → (b && false) || false ≡ false
    or_none true = refl
    or_none false = refl

    untouched : (place : ℕ) → place ≢ 0 → (nat_le 0 place && nat_lt place 1) || false ≡ false
    untouched place other = let h : nat_lt place 1 ≡ false = grind (arith, other) in ap (λ (b : Bool). (nat_le 0 place && b) || false) h ∙ or_none (nat_le 0 place)

    same : (place : ℕ) → place ≢ 0 → slice_get image place ≡ slice_get (o ∷ rest) place
    same place other = elim (cases_lt place (length (o ∷ rest))) [
      | inl lt ↦ i.untouched place lt (untouched place other)
      | inr le ↦ get_past image place (omega (arith, i.no_longer, le)) ∙ sym (get_past (o ∷ rest) place le)
    ]

-- the spare after it was closed
pub closed_spare : (old new : DiskState) → old.pending ≡ [] → new ≡ after_sync (after_write old 0 (0 ∷ [])) → (new.pending ≡ []) × (begins_closed new.stable ≡ true) × IsSpareImage old.stable new.stable
closed_spare old new still e =
    let whole : new.stable ≡ overlaid old.stable 0 (0 ∷ []) = ap (λ (d : DiskState). d.stable) e ∙ ap (λ (d : DiskState). read_of (after_write d 0 (0 ∷ []))) (all_stable old still) in
    let shut : begins_closed new.stable ≡ true = ap begins_closed whole in
    (ap (λ (d : DiskState). d.pending) e, shut, (inr (inl shut), omega (arith, ap (λ (b : List ℕ). length b) whole, length_overlaid old.stable 0 (0 ∷ []) (omega arith))))

-- a chosen image of a spare that is being closed
pub chosen_spare : (old image : List ℕ) (leaves : Leaves) → begins_closed old ≡ false → IsChosen (after_write (stable_disk old) 0 (0 ∷ [])) leaves image → IsSpareImage old image
chosen_spare old image leaves unclosed chosen = spare_images old image unclosed (chosen_is_image (after_write (stable_disk old) 0 (0 ∷ [])) leaves image (omega arith, tt) chosen)

-- ---- making

no_batches : (batches : List (List ℕ)) → 0 ≡ length (gated batches) → batches ≡ []
no_batches [] e = refl
no_batches (b ∷ bs) e = absurd (omega (arith, e))

-- a file that ends at its front has no batch
pub ends_at_front : (bytes : List ℕ) (items : List (ℕ × Record)) → EndsAt bytes 0 items → IsLogText bytes []
ends_at_front bytes items e =
    let none = no_batches e.batches e.place in
    subst (λ (b : List ℕ). IsLogText b []) (sym e.text.text) (subst (λ (bs : List (List ℕ)). IsLogText (gated e.batches ++ e.text.gate ∷ e.text.rest) bs) none (hides e.batches e.text.gate e.text.rest e.text.each e.text.closed))

-- and begins with a gate that is not open
pub first_shut : (bytes : List ℕ) (e : EndsAt bytes 0 []) → begins_closed bytes ≡ true
first_shut bytes e = ap begins_closed e.text.text ∙ by_batches e.batches e.place
  where
    shut : (x : ℕ) → x ≢ open_gate → not (x == open_gate) ≡ true
    shut x other = elim (cases_Bool (x == open_gate)) [ inl h ↦ absurd (other (let e : x ≡ open_gate = grind arith in e)) | inr h ↦ ap not h ]

    by_batches : (batches : List (List ℕ)) → 0 ≡ length (gated batches) → begins_closed (gated batches ++ e.text.gate ∷ e.text.rest) ≡ true
    by_batches [] at = shut e.text.gate e.text.closed
    by_batches (b ∷ bs) at = absurd (omega (arith, at))

pub making : (bytes : List ℕ) (more : List Record) → OldOrBoth bytes 0 [] more → IsMaking bytes (placed_from 5 more)
making bytes more either = elim either [ inl old ↦ inr (inl (first_shut bytes old)) | inr both ↦ inr (inr (5 + length (spelled more), both)) ]

pub closed_file : (old : DiskState) (bytes : List ℕ) → old.pending ≡ [] → begins_closed old.stable ≡ true → bytes ≡ read_of old → EndsAt bytes 0 []
closed_file old bytes still closed e = subst (λ (b : List ℕ). EndsAt b 0 []) (sym (e ∙ read_stable old still)) (ends_at_once old.stable closed)

-- a told file that is what a disk with a closed gate and nothing pending gives
pub closed_told : (old : DiskState) (bytes : List ℕ) (more : List Record) → old.pending ≡ [] → begins_closed old.stable ≡ true → bytes ≡ read_of old → OldOrBoth bytes 0 [] more
closed_told old bytes more still closed e = inl (closed_file old bytes still closed e)
