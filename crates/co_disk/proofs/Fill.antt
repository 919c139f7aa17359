-- How the chosen image comes out, place by place.
use Rattle.std.proofs.Common.{◌≡◌, ◌≢◌, ℕ, zero, suc, ◌+◌, ◌-◌, ◌<◌, ◌≤◌, ◌⊎◌, Bool, true, false, List, [], ◌∷◌, length, map, take, drop, get_or, refl, sym, ◌∙◌, ap, subst, inl, inr, arith, add-one, drop-cons}
use Rattle.std.proofs.Math.ListN.{set}
use Rattle.std.proofs.lemmas.Bool.{cases_Bool}
use Rattle.std.proofs.lemmas.Bool.Decides.{nat_tests}
use Rattle.std.specs.Prelude.{Some, None, slice_get, max, nat_lt}
use Rattle.co_base.specs.declared.leaves.Leaves.TheVariants.{Filled}
use Rattle.co_disk.specs.DiskModel.{DiskState, read_of, is_touched, touched_before, left_at, IsChosen, IsSound}
use Rattle.co_disk.specs.declared.touched.Touched.{Touched}
use Rattle.co_disk.specs.Kept.{Entry, entry_of, undone, AreFit, IsFit}
use Rattle.co_disk.proofs.Gets.{get_past, get_take, get_within, length_take}
use Rattle.co_disk.proofs.Images.{grown_is_covered, covered_is_read}

pub fit_suffix : (bytes : List ℕ) (touched : List Touched) (n : ℕ) → AreFit bytes (map entry_of touched) → AreFit bytes (map entry_of (drop n touched))
fit_suffix bytes touched zero fit = fit
fit_suffix bytes [] (suc n) fit = fit
fit_suffix bytes (t ∷ touched) (suc n) fit = fit_suffix bytes touched n fit.1

get_set_same : (xs : List ℕ) (place x : ℕ) → place < length xs → slice_get (set xs place x) place ≡ Some x
get_set_same [] place x lt = absurd (omega arith)
get_set_same (y ∷ xs) zero x lt = refl
get_set_same (y ∷ xs) (suc place) x lt = get_set_same xs place x (omega arith)

get_set_other : (xs : List ℕ) (place x p : ℕ) → p ≢ place → slice_get (set xs place x) p ≡ slice_get xs p
get_set_other [] place x p other = refl
get_set_other (y ∷ xs) zero x zero other = absurd (other refl)
get_set_other (y ∷ xs) zero x (suc p) other = refl
get_set_other (y ∷ xs) (suc place) x zero other = refl
get_set_other (y ∷ xs) (suc place) x (suc p) other = get_set_other xs place x p (λ e. other (ap suc e))

-- the places before this one are done, the others are as they were
pub record IsFilledTo (disk : DiskState) (with old : List ℕ) (place used : ℕ) (bytes : List ℕ) : Type 0 where
  pub counted : used ≡ touched_before disk place
  pub room : used ≤ length with
  pub within : place ≤ length old
  pub done : (p : ℕ) → p < place → slice_get bytes p ≡ left_at disk (Filled with) p
  pub rest : (p : ℕ) → place ≤ p → slice_get bytes p ≡ slice_get old p

pub filled_none : (disk : DiskState) (with old : List ℕ) → IsFilledTo disk with old 0 0 old
filled_none disk with old = record {
  counted = refl;
  room = omega arith;
  within = omega arith;
  done = λ p lt. absurd (omega arith);
  rest = λ p le. refl;
}

pub filled_touched : (disk : DiskState) (with old : List ℕ) (place used : ℕ) (bytes : List ℕ) (byte : ℕ) → IsFilledTo disk with old place used bytes → is_touched disk place ≡ true → place < length bytes → length bytes ≡ length old → slice_get with used ≡ Some byte → IsFilledTo disk with old (place + 1) (used + 1) (set bytes place byte)
filled_touched disk with old place used bytes byte so_far touched lt long is = record {
  counted = rw (add-one place) (rw touched (ap (λ n. n + 1) so_far.counted));
  room = omega (arith, get_within with used byte is);
  within = omega (arith, long);
  done = λ p before. here p before (cases_Bool (nat_lt p place));
  rest = λ p le. get_set_other bytes place byte p (omega arith) ∙ so_far.rest p (omega arith);
}
  where
    left_here : left_at disk (Filled with) place ≡ Some byte
    left_here = rw touched (rw (← so_far.counted) (rw is refl))

    here : (p : ℕ) → p < place + 1 → (nat_lt p place ≡ true) ⊎ (nat_lt p place ≡ false) → slice_get (set bytes place byte) p ≡ left_at disk (Filled with) p
    here p before (inl less) =
        let below : p < place = grind (arith, nat_tests) in
        get_set_other bytes place byte p (omega arith) ∙ so_far.done p below
    here p before (inr not_less) =
        let same : place ≡ p = grind (arith, nat_tests) in
        subst (λ q. slice_get (set bytes place byte) q ≡ left_at disk (Filled with) q) same (get_set_same bytes place byte lt ∙ sym left_here)

pub filled_untouched : (disk : DiskState) (with old : List ℕ) (stable place used : ℕ) (bytes : List ℕ) → disk.stable ≡ take stable old → stable ≤ length old → IsSound disk → length (read_of disk) ≡ length old → IsFilledTo disk with old place used bytes → is_touched disk place ≡ false → place < length old → IsFilledTo disk with old (place + 1) used bytes
filled_untouched disk with old stable place used bytes front short sound long so_far untouched lt = record {
  counted = rw (add-one place) (rw untouched so_far.counted);
  room = so_far.room;
  within = omega arith;
  done = λ p before. here p before (cases_Bool (nat_lt p place));
  rest = λ p le. so_far.rest p (omega arith);
}
  where
    is_stable : (nat_lt place stable ≡ true) ⊎ (nat_lt place stable ≡ false) → slice_get old place ≡ slice_get disk.stable place
    is_stable (inl less) = sym (ap (λ (l : List ℕ). slice_get l place) front ∙ get_take stable old place (grind (arith, nat_tests)))
    is_stable (inr not_less) =
        let past : stable ≤ place = grind (arith, nat_tests) in
        let stable_long : length disk.stable ≡ stable = ap length front ∙ length_take stable old short in
        let covered = grown_is_covered disk.stable disk.pending place sound (omega (arith, stable_long)) (omega (arith, long)) in
        absurd (cc)

    left_here : left_at disk (Filled with) place ≡ slice_get disk.stable place
    left_here = rw untouched refl

    here : (p : ℕ) → p < place + 1 → (nat_lt p place ≡ true) ⊎ (nat_lt p place ≡ false) → slice_get bytes p ≡ left_at disk (Filled with) p
    here p before (inl less) = so_far.done p (grind (arith, nat_tests))
    here p before (inr not_less) =
        let same : place ≡ p = grind (arith, nat_tests) in
        subst (λ q. slice_get bytes q ≡ left_at disk (Filled with) q) same (so_far.rest place (omega arith) ∙ is_stable (cases_Bool (nat_lt place stable)) ∙ sym left_here)

pub rank_grows : (disk : DiskState) (place more : ℕ) → touched_before disk place ≤ touched_before disk (place + more)
rank_grows disk place zero = let e : place + 0 ≡ place = omega arith in omega (arith, ap (touched_before disk) e)
rank_grows disk place (suc more) =
    let e : place + suc more ≡ suc (place + more) = omega arith in
    let step : touched_before disk (place + more) ≤ touched_before disk (suc (place + more)) = one (is_touched disk (place + more)) refl in
    omega (arith, rank_grows disk place more, step, ap (touched_before disk) e)
  where
    one : (b : Bool) → is_touched disk (place + more) ≡ b → touched_before disk (place + more) ≤ touched_before disk (suc (place + more))
    one true is = rw is (omega arith)
    one false is = rw is (omega arith)

-- when all places are done, or nothing is left to fill with, what is there is the chosen image
pub filled_all : (disk : DiskState) (with old : List ℕ) (stable place used : ℕ) (bytes : List ℕ) → disk.stable ≡ take stable old → stable ≤ length old → IsSound disk → length (read_of disk) ≡ length old → length bytes ≡ length old → IsFilledTo disk with old place used bytes → (length old ≤ place) ⊎ (length with ≤ used) → IsChosen disk (Filled with) (take (max place stable) bytes)
filled_all disk with old stable place used bytes front short sound long same_long so_far ended p = at_place (cases_Bool (nat_lt p place))
  where
    stable_long : length disk.stable ≡ stable
    stable_long = ap length front ∙ length_take stable old short

    unfilled : place ≤ p → is_touched disk p ≡ true → slice_get with (touched_before disk p) ≡ None
    unfilled from touched = elim ended [
      | inl all ↦ absurd (omega (arith, covered_is_read disk.stable disk.pending p sound touched, long, from))
      | inr empty ↦
          let more = p - place in
          let split : place + more ≡ p = omega arith in
          get_past with (touched_before disk p) (omega (arith, rank_grows disk place more, ap (touched_before disk) split, so_far.counted))
    ]

    left_stable : place ≤ p → (is_touched disk p ≡ true) ⊎ (is_touched disk p ≡ false) → left_at disk (Filled with) p ≡ slice_get disk.stable p
    left_stable from (inl touched) = rw touched (rw (unfilled from touched) refl)
    left_stable from (inr untouched) = rw untouched refl

    kept : place ≤ p → (nat_lt p stable ≡ true) ⊎ (nat_lt p stable ≡ false) → slice_get (take (max place stable) bytes) p ≡ slice_get disk.stable p
    kept from (inl less) =
        let lt : p < stable = grind (arith, nat_tests) in
        get_take (max place stable) bytes p (omega arith) ∙ so_far.rest p from ∙ sym (ap (λ (l : List ℕ). slice_get l p) front ∙ get_take stable old p lt)
    kept from (inr not_less) =
        let past : stable ≤ p = grind (arith, nat_tests) in
        get_past (take (max place stable) bytes) p (omega (arith, length_take (max place stable) bytes (omega (arith, so_far.within)))) ∙ sym (get_past disk.stable p (omega (arith, stable_long)))

    at_place : (nat_lt p place ≡ true) ⊎ (nat_lt p place ≡ false) → slice_get (take (max place stable) bytes) p ≡ left_at disk (Filled with) p
    at_place (inl less) =
        let lt : p < place = grind (arith, nat_tests) in
        get_take (max place stable) bytes p (omega arith) ∙ so_far.done p lt
    at_place (inr not_less) =
        let from : place ≤ p = grind (arith, nat_tests) in
        kept from (cases_Bool (nat_lt p stable)) ∙ sym (left_stable from (cases_Bool (is_touched disk p)))

-- a write fits where the later ones are taken back
pub fit_here : (bytes : List ℕ) (touched : List Touched) (n left : ℕ) (t : Touched) → AreFit bytes (map entry_of touched) → left ≡ suc n → n < length touched → t ≡ get_or touched n t → IsFit (undone bytes (map entry_of (drop left touched))) (entry_of t)
fit_here bytes touched n left t fit is lt here =
    let split = drop-cons touched n t lt in
    let suffix : AreFit bytes (map entry_of (get_or touched n t ∷ drop (suc n) touched)) = subst (λ (ts : List Touched). AreFit bytes (map entry_of ts)) split (fit_suffix bytes touched n fit) in
    subst (λ k. IsFit (undone bytes (map entry_of (drop k touched))) (entry_of t)) (sym is) (subst (λ u. IsFit (undone bytes (map entry_of (drop (suc n) touched))) (entry_of u)) (sym here) suffix.0)

-- the same, of the front of bytes that it is
pub fit_front : (bytes whole : List ℕ) (e : Entry) (len : ℕ) → IsFit whole e → take len bytes ≡ whole → len ≤ length bytes → (e.at + length e.piece ≤ len) × (length e.before ≤ length e.piece) × (length e.before < length e.piece → e.at + length e.piece ≡ len)
fit_front bytes whole e len fit back less =
    let long : len ≡ length whole = sym (length_take len bytes less) ∙ ap (λ (l : List ℕ). length l) back in
    (omega (arith, fit.within, long), fit.no_longer, λ shorter. fit.short shorter ∙ sym long)
