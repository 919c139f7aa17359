-- A write more is noted.
use Rattle.std.proofs.Common.{◌≡◌, ℕ, ◌+◌, ◌-◌, ◌<◌, ◌≤◌, ◌⊎◌, true, false, List, [], ◌∷◌, ◌++◌, length, map, take, drop, get_or, refl, sym, ◌∙◌, ap, subst, inl, inr, arith, length-append, length-drop, drop-cons}
use Rattle.std.proofs.Math.ListN.{set}
use Rattle.std.proofs.lemmas.List.Edits.{sets-eq}
use Rattle.std.proofs.lemmas.Bool.{cases_Bool}
use Rattle.std.proofs.lemmas.Bool.Decides.{nat_tests}
use Rattle.std.proofs.lemmas.List.{map-append, length-take}
use Rattle.std.specs.Prelude.{Option, Some, None, is_some, slice_get, min, nat_lt}
use Rattle.co_base.specs.Limits.{most_log_bytes}
use Rattle.co_outside.specs.Overlay.{overlaid}
use Rattle.co_disk.specs.DiskModel.{Write, read_of, after_write, IsSound}
use Rattle.co_disk.specs.declared.touched.FirstByte.{FirstByte}
use Rattle.co_disk.specs.declared.touched.Touched.{Touched}
use Rattle.co_disk.specs.Kept.{Entry, entry_of, first_entry, entries, write_of, taken_back, undone, state_of, AreFit, IsFit, IsKept}
use Rattle.co_disk.proofs.Gets.{get_past, get_take, get_drop, get_left, get_right, length_take, length_overlaid, get_before, get_behind, same_everywhere}
use Rattle.co_disk.proofs.Images.{laid_more, within_more}

-- the write of a piece over these bytes
abbrev pub entry : List ℕ → ℕ → List ℕ → Entry
entry bytes at piece = record { at = at; piece = piece; before = take (length piece) (drop at bytes) }

module _ (bytes : List ℕ) (at : ℕ) (piece : List ℕ) (within : at ≤ length bytes) where
  before : List ℕ
  before = take (length piece) (drop at bytes)

  before_long : length (take (length piece) (drop at bytes)) ≡ min (length piece) (length bytes - at)
  before_long = omega (arith, length-take (length piece) (drop at bytes), length-drop at bytes)

  pub fits : IsFit (overlaid bytes at piece) (entry bytes at piece)
  fits = record {
    within = omega (arith, length_overlaid bytes at piece within);
    no_longer = omega (arith, before_long);
    short = λ shorter. omega (arith, before_long, length_overlaid bytes at piece within);
  }

  laid : List ℕ
  laid = overlaid bytes at piece

  front_long : length (take at (overlaid bytes at piece)) ≡ at
  front_long = length_take at (overlaid bytes at piece) (omega (arith, length_overlaid bytes at piece within))

  middle_long : length (take at (overlaid bytes at piece) ++ take (length piece) (drop at bytes)) ≡ at + min (length piece) (length bytes - at)
  middle_long = omega (arith, length-append (take at (overlaid bytes at piece)) (take (length piece) (drop at bytes)), front_long, before_long)

  in_front : (place : ℕ) → place < at → slice_get (taken_back (overlaid bytes at piece) (entry bytes at piece)) place ≡ slice_get bytes place
  in_front place lt =
      get_left (take at (overlaid bytes at piece) ++ take (length piece) (drop at bytes)) (drop (at + length piece) (overlaid bytes at piece)) place (omega (arith, middle_long))
      ∙ get_left (take at (overlaid bytes at piece)) (take (length piece) (drop at bytes)) place (omega (arith, front_long))
      ∙ get_take at (overlaid bytes at piece) place lt
      ∙ get_before bytes at piece within place lt

  in_middle : (n : ℕ) → n < min (length piece) (length bytes - at) → slice_get (taken_back (overlaid bytes at piece) (entry bytes at piece)) (at + n) ≡ slice_get bytes (at + n)
  in_middle n lt =
      get_left (take at (overlaid bytes at piece) ++ take (length piece) (drop at bytes)) (drop (at + length piece) (overlaid bytes at piece)) (at + n) (omega (arith, middle_long))
      ∙ ap (λ m. slice_get (take at (overlaid bytes at piece) ++ take (length piece) (drop at bytes)) (m + n)) (sym front_long)
      ∙ get_right (take at (overlaid bytes at piece)) (take (length piece) (drop at bytes)) n
      ∙ get_take (length piece) (drop at bytes) n (omega arith)
      ∙ get_drop at bytes n

  in_back : (n : ℕ) → slice_get (taken_back (overlaid bytes at piece) (entry bytes at piece)) (at + min (length piece) (length bytes - at) + n) ≡ slice_get bytes (at + min (length piece) (length bytes - at) + n)
  in_back n =
      ap (λ m. slice_get (taken_back (overlaid bytes at piece) (entry bytes at piece)) (m + n)) (sym middle_long)
      ∙ get_right (take at (overlaid bytes at piece) ++ take (length piece) (drop at bytes)) (drop (at + length piece) (overlaid bytes at piece)) n
      ∙ get_drop (at + length piece) (overlaid bytes at piece) n
      ∙ get_behind bytes at piece within (at + length piece + n) (omega arith)
      ∙ same_back (cases_Bool (nat_lt (length bytes - at) (length piece)))
    where
      same_back : (nat_lt (length bytes - at) (length piece) ≡ true) ⊎ (nat_lt (length bytes - at) (length piece) ≡ false) → slice_get bytes (at + length piece + n) ≡ slice_get bytes (at + min (length piece) (length bytes - at) + n)
      same_back (inl short) =
          let less : length bytes - at < length piece = grind (arith, nat_tests) in
          get_past bytes (at + length piece + n) (omega arith) ∙ sym (get_past bytes (at + min (length piece) (length bytes - at) + n) (omega arith))
      same_back (inr long) =
          let more : length piece ≤ length bytes - at = grind (arith, nat_tests) in
          let same : at + length piece + n ≡ at + min (length piece) (length bytes - at) + n = omega arith in
          ap (λ m. slice_get bytes m) same

  pub taken_back_again : taken_back (overlaid bytes at piece) (entry bytes at piece) ≡ bytes
  taken_back_again = same_everywhere _ _ (λ place. at_place place (cases_Bool (nat_lt place at)) (cases_Bool (nat_lt place (at + min (length piece) (length bytes - at)))))
    where
      at_place : (place : ℕ) → (nat_lt place at ≡ true) ⊎ (nat_lt place at ≡ false) → (nat_lt place (at + min (length piece) (length bytes - at)) ≡ true) ⊎ (nat_lt place (at + min (length piece) (length bytes - at)) ≡ false) → slice_get (taken_back (overlaid bytes at piece) (entry bytes at piece)) place ≡ slice_get bytes place
      at_place place (inl less) _ = in_front place (grind (arith, nat_tests))
      at_place place (inr from) (inl less) =
          let split : at + (place - at) ≡ place = grind (arith, nat_tests) in
          let lt : place - at < min (length piece) (length bytes - at) = grind (arith, nat_tests) in
          subst (λ p. slice_get (taken_back (overlaid bytes at piece) (entry bytes at piece)) p ≡ slice_get bytes p) split (in_middle (place - at) lt)
      at_place place (inr from) (inr behind) =
          let split : at + min (length piece) (length bytes - at) + (place - (at + min (length piece) (length bytes - at))) ≡ place = grind (arith, nat_tests) in
          subst (λ p. slice_get (taken_back (overlaid bytes at piece) (entry bytes at piece)) p ≡ slice_get bytes p) split (in_back (place - (at + min (length piece) (length bytes - at))))

undone_more : (bytes : List ℕ) (es : List Entry) (e : Entry) → undone bytes (es ++ e ∷ []) ≡ undone (taken_back bytes e) es
undone_more bytes [] e = refl
undone_more bytes (f ∷ es) e = ap (λ (b : List ℕ). taken_back b f) (undone_more bytes es e)

fit_more : (bytes : List ℕ) (es : List Entry) (e : Entry) → AreFit (taken_back bytes e) es → IsFit bytes e → AreFit bytes (es ++ e ∷ [])
fit_more bytes [] e fit here = (here, tt)
fit_more bytes (f ∷ es) e fit here = (subst (λ (b : List ℕ). IsFit b f) (sym (undone_more bytes es e)) fit.0, fit_more bytes es e fit.1 here)

writes_more : (es : List Entry) (e : Entry) → map write_of (es ++ e ∷ []) ≡ map write_of es ++ write_of e ∷ []
writes_more [] e = refl
writes_more (f ∷ es) e = ap (λ (ws : List Write). write_of f ∷ ws) (writes_more es e)

-- the disk with the write pending
pub noted_state : (bytes : List ℕ) (es : List Entry) (at : ℕ) (piece : List ℕ) → at ≤ length bytes → state_of (overlaid bytes at piece) (es ++ entry bytes at piece ∷ []) ≡ after_write (state_of bytes es) at piece
noted_state bytes es at piece within =
    let stable : undone (overlaid bytes at piece) (es ++ entry bytes at piece ∷ []) ≡ undone bytes es = undone_more (overlaid bytes at piece) es (entry bytes at piece) ∙ ap (λ (b : List ℕ). undone b es) (taken_back_again bytes at piece within) in
    let pending : map write_of (es ++ entry bytes at piece ∷ []) ≡ map write_of es ++ write_of (entry bytes at piece) ∷ [] = writes_more es (entry bytes at piece) in
    λ i. record { stable = stable i; pending = pending i }

pub noted_kept : (bytes : List ℕ) (es : List Entry) (at : ℕ) (piece : List ℕ) → at ≤ length bytes → at + length piece ≤ most_log_bytes → IsKept bytes es → IsKept (overlaid bytes at piece) (es ++ entry bytes at piece ∷ [])
noted_kept bytes es at piece within end kept =
    let state = noted_state bytes es at piece within in
    let w : Write = record { at = at; piece = piece } in
    record {
      read = ap read_of state ∙ laid_more (undone bytes es) (map write_of es) w ∙ ap (λ (b : List ℕ). overlaid b at piece) kept.read;
      sound = subst IsSound (sym state) (within_more (undone bytes es) (map write_of es) w kept.sound (omega (arith, ap (λ (l : List ℕ). length l) kept.read)));
      fit = fit_more (overlaid bytes at piece) es (entry bytes at piece) (subst (λ (b : List ℕ). AreFit b es) (sym (taken_back_again bytes at piece within)) kept.fit) (fits bytes at piece within);
      short = omega (arith, kept.short, length_overlaid bytes at piece within);
    }

-- entries of a disk whose last write was noted
pub entries_more : (first : Option FirstByte) (touched : List Touched) (t : Touched) → entries first (touched ++ t ∷ []) ≡ entries first touched ++ entry_of t ∷ []
entries_more None touched t = map-append entry_of touched (t ∷ [])
entries_more (Some f) touched t = ap (λ (es : List Entry). first_entry f ∷ es) (map-append entry_of touched (t ∷ []))

-- the entry of a write that was noted with these parts
pub entry_is : (bytes : List ℕ) (at : ℕ) (piece : List ℕ) (e : Entry) → e.at ≡ at → e.piece ≡ piece → e.before ≡ take (length piece) (drop at bytes) → e ≡ entry bytes at piece
entry_is bytes at piece e same_at same_piece same_before = λ i. record { at = same_at i; piece = same_piece i; before = same_before i }

-- one byte set is a piece of one byte laid in
pub set_overlaid : (bytes : List ℕ) (at : ℕ) (piece : List ℕ) → at < length bytes → length piece ≡ 1 → set bytes at (get_or piece 0 0) ≡ overlaid bytes at piece
set_overlaid bytes at [] lt one = absurd (omega arith)
set_overlaid bytes at (x ∷ []) lt one = sets-eq (x ∷ []) bytes at (omega arith)
set_overlaid bytes at (x ∷ y ∷ piece) lt one = absurd (omega arith)

-- the entry of one byte
pub first_is : (bytes : List ℕ) (at : ℕ) (piece : List ℕ) (byte old : ℕ) → at < length bytes → length piece ≡ 1 → byte ≡ get_or piece 0 0 → old ≡ get_or bytes at old → first_entry (record { at = at; byte = byte; before = old }) ≡ entry bytes at piece
first_is bytes at [] byte old lt one is was = absurd (omega arith)
first_is bytes at (x ∷ []) byte old lt one is was =
    let same : byte ∷ [] ≡ x ∷ [] = ap (λ b. b ∷ []) is in
    let back : take 1 (drop at bytes) ≡ old ∷ [] = ap (λ (l : List ℕ). take 1 l) (drop-cons bytes at old lt) ∙ ap (λ b. b ∷ []) (sym was) in
    entry_is bytes at (x ∷ []) (first_entry (record { at = at; byte = byte; before = old })) refl same (sym back)
first_is bytes at (x ∷ y ∷ piece) byte old lt one is was = absurd (omega arith)

-- one byte is noted where nothing is pending
pub one_byte : (bytes : List ℕ) (first : Option FirstByte) (touched : List Touched) (at : ℕ) (piece : List ℕ) (old : ℕ) → is_some first ≡ false → length touched ≡ 0 → at < length bytes → length piece ≡ 1 → old ≡ get_or bytes at old → at + length piece ≤ most_log_bytes → IsKept bytes (entries first touched)
    → IsKept (set bytes at (get_or piece 0 0)) (entries (Some (record { at = at; byte = get_or piece 0 0; before = old })) touched) × (state_of (set bytes at (get_or piece 0 0)) (entries (Some (record { at = at; byte = get_or piece 0 0; before = old })) touched) ≡ after_write (state_of bytes (entries first touched)) at piece)
one_byte bytes (Some f) touched at piece old none empty lt one was end kept = absurd (cc)
one_byte bytes None (t ∷ touched) at piece old none empty lt one was end kept = absurd (omega arith)
one_byte bytes None [] at piece old none empty lt one was end kept =
    let laid = set_overlaid bytes at piece lt one in
    let is = first_is bytes at piece (get_or piece 0 0) old lt one refl was in
    let same : state_of (set bytes at (get_or piece 0 0)) (first_entry (record { at = at; byte = get_or piece 0 0; before = old }) ∷ []) ≡ state_of (overlaid bytes at piece) (entry bytes at piece ∷ []) = λ i. state_of (laid i) (is i ∷ []) in (
      rw (laid, is) (noted_kept bytes [] at piece (omega arith) end kept),
      same ∙ noted_state bytes [] at piece (omega arith),
    )

-- a write is noted as the newest one
pub one_more : (bytes new_bytes : List ℕ) (first : Option FirstByte) (touched new_touched : List Touched) (t : Touched) (at : ℕ) (piece : List ℕ) → at ≤ length bytes → at + length piece ≤ most_log_bytes → t.at ≡ at → t.piece.items ≡ piece → t.before.items ≡ take (length piece) (drop at bytes) → new_bytes ≡ overlaid bytes at piece → new_touched ≡ touched ++ t ∷ [] → IsKept bytes (entries first touched)
    → IsKept new_bytes (entries first new_touched) × (state_of new_bytes (entries first new_touched) ≡ after_write (state_of bytes (entries first touched)) at piece)
one_more bytes new_bytes first touched new_touched t at piece within end same_at same_piece same_before laid pushed kept =
    let es : entries first new_touched ≡ entries first touched ++ entry bytes at piece ∷ [] =
    ap (λ (ts : List Touched). entries first ts) pushed ∙ entries_more first touched t ∙ ap (λ e. entries first touched ++ e ∷ []) (entry_is bytes at piece (entry_of t) same_at same_piece same_before) in (
      rw (laid, es) (noted_kept bytes (entries first touched) at piece within end kept),
      rw (laid, es) (noted_state bytes (entries first touched) at piece within),
    )
