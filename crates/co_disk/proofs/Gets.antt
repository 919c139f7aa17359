-- What stands at a place of lists that were joined, cut or laid over.
use Rattle.std.proofs.Common.{◌≡◌, ◌⊎◌, inl, inr, true, false, ℕ, zero, suc, ◌+◌, ◌-◌, ◌<◌, ◌≤◌, List, [], ◌∷◌, ◌++◌, length, take, drop, refl, sym, ◌∙◌, ap, arith, length-append, length-drop}
use borrow.Rule.Slice.PartMut.{put_mid}
use Rattle.std.proofs.lemmas.Slice.{put_mid-paste}
use Rattle.std.proofs.lemmas.Bool.{cases_Bool}
use Rattle.std.proofs.lemmas.Bool.Decides.{nat_tests}
use Rattle.std.specs.Prelude.{Some, None, slice_get, nat_lt, max}
use Rattle.co_outside.specs.Overlay.{overlaid, IsTorn}

pub get_left : (xs ys : List ℕ) (place : ℕ) → place < length xs → slice_get (xs ++ ys) place ≡ slice_get xs place
get_left [] ys place lt = absurd (omega arith)
get_left (x ∷ xs) ys zero lt = refl
get_left (x ∷ xs) ys (suc place) lt = get_left xs ys place (omega arith)

pub get_right : (xs ys : List ℕ) (place : ℕ) → slice_get (xs ++ ys) (length xs + place) ≡ slice_get ys place
get_right [] ys place = ap (λ n. slice_get ys n) (let e : 0 + place ≡ place = omega arith in e)
get_right (x ∷ xs) ys place = ap (λ n. slice_get (x ∷ xs ++ ys) n) (let e : suc (length xs) + place ≡ suc (length xs + place) = omega arith in e) ∙ get_right xs ys place

pub get_take : (n : ℕ) (xs : List ℕ) (place : ℕ) → place < n → slice_get (take n xs) place ≡ slice_get xs place
get_take zero xs place lt = absurd (omega arith)
get_take (suc n) [] place lt = refl
get_take (suc n) (x ∷ xs) zero lt = refl
get_take (suc n) (x ∷ xs) (suc place) lt = get_take n xs place (omega arith)

pub get_drop : (n : ℕ) (xs : List ℕ) (place : ℕ) → slice_get (drop n xs) place ≡ slice_get xs (n + place)
get_drop zero xs place = ap (λ n. slice_get xs n) (let e : place ≡ 0 + place = omega arith in e)
get_drop (suc n) [] place = refl
get_drop (suc n) (x ∷ xs) place = get_drop n xs place ∙ ap (λ n. slice_get (x ∷ xs) n) (let e : suc (n + place) ≡ suc n + place = omega arith in e)

pub length_take : (n : ℕ) (xs : List ℕ) → n ≤ length xs → length (take n xs) ≡ n
length_take zero xs le = refl
length_take (suc n) [] le = absurd (omega arith)
length_take (suc n) (x ∷ xs) le = ap suc (length_take n xs (omega arith))

pub get_past : (xs : List ℕ) (place : ℕ) → length xs ≤ place → slice_get xs place ≡ None
get_past [] place le = refl
get_past (x ∷ xs) zero le = absurd (omega arith)
get_past (x ∷ xs) (suc place) le = get_past xs place (omega arith)

pub get_within : (xs : List ℕ) (place : ℕ) (x : ℕ) → slice_get xs place ≡ Some x → place < length xs
get_within [] place x is = absurd (cc)
get_within (y ∷ xs) zero x is = omega arith
get_within (y ∷ xs) (suc place) x is = omega (arith, get_within xs place x is)

-- lists with the same at every place are the same
pub same_everywhere : (xs ys : List ℕ) → ((place : ℕ) → slice_get xs place ≡ slice_get ys place) → xs ≡ ys
same_everywhere [] [] same = refl
same_everywhere [] (y ∷ ys) same = absurd (let h = same 0 in cc)
same_everywhere (x ∷ xs) [] same = absurd (let h = same 0 in cc)
same_everywhere (x ∷ xs) (y ∷ ys) same =
    let head : x ≡ y = let h : Some x ≡ Some y = same 0 in cc in
    let rest = same_everywhere xs ys (λ place. same (suc place)) in
    λ i. head i ∷ rest i

-- where nothing stands at a place, the list has ended
pub ends_before : (xs : List ℕ) (place : ℕ) → slice_get xs place ≡ None → length xs ≤ place
ends_before [] place none = omega arith
ends_before (x ∷ xs) zero none = absurd (cc)
ends_before (x ∷ xs) (suc place) none = omega (arith, ends_before xs place none)

module _ (bytes : List ℕ) (at : ℕ) (piece : List ℕ) (within : at ≤ length bytes) where
  front_length : length (take at bytes ++ piece) ≡ at + length piece
  front_length = omega (arith, length-append (take at bytes) piece, length_take at bytes within)

  pub length_overlaid : length (overlaid bytes at piece) ≡ max (length bytes) (at + length piece)
  length_overlaid = omega (arith, length-append (take at bytes ++ piece) (drop (at + length piece) bytes), front_length, length-drop (at + length piece) bytes)

  pub get_before : (place : ℕ) → place < at → slice_get (overlaid bytes at piece) place ≡ slice_get bytes place
  get_before place lt =
      get_left (take at bytes ++ piece) (drop (at + length piece) bytes) place (omega (arith, front_length))
      ∙ get_left (take at bytes) piece place (omega (arith, length_take at bytes within))
      ∙ get_take at bytes place lt

  pub get_inside : (place : ℕ) → place < length piece → slice_get (overlaid bytes at piece) (at + place) ≡ slice_get piece place
  get_inside place lt =
      get_left (take at bytes ++ piece) (drop (at + length piece) bytes) (at + place) (omega (arith, front_length))
      ∙ ap (λ n. slice_get (take at bytes ++ piece) (n + place)) (sym (length_take at bytes within))
      ∙ get_right (take at bytes) piece place

  pub get_behind : (place : ℕ) → at + length piece ≤ place → slice_get (overlaid bytes at piece) place ≡ slice_get bytes place
  get_behind place le =
      let n = place - (at + length piece) in
      let split : place ≡ (at + length piece) + n = omega arith in
      let is : (at + length piece) + n ≡ length (take at bytes ++ piece) + n = omega (arith, front_length) in
      ap (λ p. slice_get (overlaid bytes at piece) p) (split ∙ is)
      ∙ get_right (take at bytes ++ piece) (drop (at + length piece) bytes) n
      ∙ get_drop (at + length piece) bytes n
      ∙ ap (λ p. slice_get bytes p) (sym split)

  -- a whole write is a torn one
  pub overlaid_torn : IsTorn at (length piece) bytes (overlaid bytes at piece)
  overlaid_torn = record {
    no_shorter = omega (arith, length_overlaid);
    no_longer = omega (arith, length_overlaid);
    before = get_before;
    behind = get_behind;
  }

-- a piece laid into the front of bytes stands in their front
pub overlaid_front : (bytes piece : List ℕ) (len at : ℕ) → len ≤ length bytes → at + length piece ≤ len → take len (overlaid bytes at piece) ≡ overlaid (take len bytes) at piece
overlaid_front bytes piece len at le inside = same_everywhere _ _ (λ place. at_place place (cases_Bool (nat_lt place len)))
  where
    front : List ℕ
    front = take len bytes

    front_long : length (take len bytes) ≡ len
    front_long = length_take len bytes le

    within : at ≤ length (take len bytes)
    within = omega (arith, front_long)

    whole : at ≤ length bytes
    whole = omega arith

    long : length (overlaid bytes at piece) ≡ max (length bytes) (at + length piece)
    long = length_overlaid bytes at piece whole

    below : (place : ℕ) → place < len → (nat_lt place at ≡ true) ⊎ (nat_lt place at ≡ false) → slice_get (overlaid bytes at piece) place ≡ slice_get (overlaid (take len bytes) at piece) place
    below place lt (inl before) =
        let first : place < at = grind (arith, nat_tests) in
        get_before bytes at piece whole place first ∙ sym (get_before (take len bytes) at piece within place first ∙ get_take len bytes place lt)
    below place lt (inr from) = elim (cases_Bool (nat_lt place (at + length piece))) [
      | inl in_piece ↦
          let n = place - at in
          let is : place ≡ at + n = grind (arith, nat_tests) in
          let small : n < length piece = grind (arith, nat_tests) in
          ap (λ p. slice_get (overlaid bytes at piece) p) is ∙ get_inside bytes at piece whole n small ∙ sym (ap (λ p. slice_get (overlaid (take len bytes) at piece) p) is ∙ get_inside (take len bytes) at piece within n small)
      | inr behind ↦
          let past : at + length piece ≤ place = grind (arith, nat_tests) in
          get_behind bytes at piece whole place past ∙ sym (get_behind (take len bytes) at piece within place past ∙ get_take len bytes place lt)
    ]

    at_place : (place : ℕ) → (nat_lt place len ≡ true) ⊎ (nat_lt place len ≡ false) → slice_get (take len (overlaid bytes at piece)) place ≡ slice_get (overlaid (take len bytes) at piece) place
    at_place place (inl less) =
        let lt : place < len = grind (arith, nat_tests) in
        get_take len (overlaid bytes at piece) place lt ∙ below place lt (cases_Bool (nat_lt place at))
    at_place place (inr not_less) =
        let past : len ≤ place = grind (arith, nat_tests) in
        get_past (take len (overlaid bytes at piece)) place (omega (arith, length_take len (overlaid bytes at piece) (omega (arith, long))))
        ∙ sym (get_past (overlaid (take len bytes) at piece) place (omega (arith, length_overlaid (take len bytes) at piece within, front_long)))

-- a part that was written is a piece laid in
pub part_overlaid : (bytes : List ℕ) (at count : ℕ) (part piece : List ℕ) → part ≡ piece → count ≡ length piece → put_mid at count bytes part ≡ overlaid bytes at piece
part_overlaid bytes at count part piece same long =
    put_mid-paste at count bytes part piece (length piece) same (sym long) refl
    ∙ ap (λ (mid : List ℕ). take at bytes ++ mid ++ drop (at + length piece) bytes) (take_whole piece)
  where
    take_whole : (xs : List ℕ) → take (length xs) xs ≡ xs
    take_whole [] = refl
    take_whole (x ∷ xs) = ap (λ (l : List ℕ). x ∷ l) (take_whole xs)

-- lists that agree up to both ends are the same
pub same_to : (xs ys : List ℕ) (n : ℕ) → max (length xs) (length ys) ≤ n → ((p : ℕ) → p < n → slice_get xs p ≡ slice_get ys p) → xs ≡ ys
same_to xs ys n ends same = same_everywhere xs ys (λ p. at_place p (cases_Bool (nat_lt p n)))
  where
    at_place : (p : ℕ) → (nat_lt p n ≡ true) ⊎ (nat_lt p n ≡ false) → slice_get xs p ≡ slice_get ys p
    at_place p (inl less) = same p (grind (arith, nat_tests))
    at_place p (inr past) =
        let le : n ≤ p = grind (arith, nat_tests) in
        get_past xs p (omega arith) ∙ sym (get_past ys p (omega arith))
