-- A line is cut at its first space.
use Rattle.std.proofs.Common.{◌≡◌, ℕ, ◌+◌, ◌-◌, ◌<◌, ◌≤◌, Bool, true, false, cond, List, [], ◌∷◌, ◌++◌, length, take, drop, None, Some, refl, ap, ◌∙◌, arith, ltb}
use Rattle.std.specs.Prelude.{position, ◌==◌}
use Rattle.std.specs.List.{slice_split, onto_first, position_or_len, join_with_byte}
use Rattle.std.proofs.lemmas.Bool.{ltb-true, ltb-false}
use Rattle.std.proofs.lemmas.List.{take_rest}
use Rattle.std.proofs.lemmas.List.Splits.{slice_split-cons_no, slice_split_first, length-slice_split, join_with_byte-slice_split}
use Rattle.std.proofs.lemmas.List.{append-nil}
use Rattle.co_schedule.specs.Words.{Word, space, spaced, words_of}
use Rattle.co_schedule.specs.Places.{ended, extra}
use Rattle.co_schedule.specs.declared.fault.LineKind.TheVariants.{Extra}

whole_step : {X : Type 0} (p : X → Bool) (x : X) (xs : List X) (b : Bool) → p x ≡ b → length (x ∷ xs) ≤ position_or_len p (x ∷ xs) → (length xs ≤ position_or_len p xs → slice_split p xs ≡ xs ∷ []) → slice_split p (x ∷ xs) ≡ (x ∷ xs) ∷ []
whole_step p x xs true e h others =
    let none : position_or_len p (x ∷ xs) ≡ 0 = rw e refl in
    absurd (omega arith)
whole_step p x xs false e h others =
    let more : position_or_len p (x ∷ xs) ≡ 1 + position_or_len p xs = rw e refl in
    slice_split-cons_no p x xs e ∙ ap (onto_first x) (others (omega arith))

-- nothing is cut where no element passes
pub whole : {X : Type 0} (p : X → Bool) (xs : List X) → length xs ≤ position_or_len p xs → slice_split p xs ≡ xs ∷ []
whole p [] h = refl
whole p (x ∷ xs) h = whole_step p x xs (p x) refl h (whole p xs)

placed : (b : Bool) (n i : ℕ) → cond b (Some n) None ≡ Some i → (b ≡ true) × (n ≡ i)
placed true n i e = (refl, cc)
placed false n i e = absurd cc

unplaced : (b : Bool) (n : ℕ) → cond b (Some n) None ≡ None → b ≡ false
unplaced true n e = absurd cc
unplaced false n e = refl

-- the first word, and the words behind its space
pub cut_at : (p : ℕ → Bool) (xs : List ℕ) (i : ℕ) → position p xs ≡ Some i → slice_split p xs ≡ take i xs ∷ slice_split p (take (length xs - (i + 1)) (drop (i + 1) xs))
cut_at p xs i e =
    let found = placed (ltb (position_or_len p xs) (length xs)) (position_or_len p xs) i e in
    let here : position_or_len p xs < length xs = ltb-true _ _ found.0 in
    let cut : slice_split p xs ≡ take (position_or_len p xs) xs ∷ slice_split p (drop (position_or_len p xs + 1) xs) = slice_split_first p xs 0 here in
    rw take_rest (rw (← found.1) cut)

-- one word alone
pub cut_nowhere : (p : ℕ → Bool) (xs : List ℕ) → position p xs ≡ None → slice_split p xs ≡ xs ∷ []
cut_nowhere p xs e =
    whole p xs (ltb-false _ _ (unplaced (ltb (position_or_len p xs) (length xs)) (position_or_len p xs) e))

joined : (words : List Word) → spaced words ≡ join_with_byte space words
joined [] = refl
joined (word ∷ []) = append-nil word
joined (word ∷ other ∷ words) = ap (λ (rest : List ℕ). word ++ (space ∷ rest)) (joined (other ∷ words))

-- the words of a line, with a space between each two, are the line
pub spaced-words_of : (line : List ℕ) → spaced (words_of line) ≡ line
spaced-words_of line = joined (words_of line) ∙ join_with_byte-slice_split space line

ends_extra : (words : List Word) → 0 < length words → ended words ≡ Some (extra words)
ends_extra [] some = absurd (omega arith)
ends_extra (word ∷ words) some = refl

-- a line has at least one word, which is too much where nothing is wanted
pub extra_word : (line : List ℕ) → ended (words_of line) ≡ Some (record { kind = Extra; left = length line })
extra_word line =
    ends_extra (words_of line) (rw (length-slice_split (λ byte. byte == space) line) (omega arith)) ∙ ap (λ (rest : List ℕ). Some (record { kind = Extra; left = length rest })) (spaced-words_of line)
