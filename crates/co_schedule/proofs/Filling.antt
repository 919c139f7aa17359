-- How a reader of lines fills its buffer.
use Rattle.std.proofs.Common.{◌≡◌, ℕ, ◌+◌, ◌-◌, ◌<◌, ◌≤◌, Bool, true, false, cond, List, ◌++◌, length, take, drop, Option, None, Some, refl, sym, ap, ◌∙◌, arith, ltb, eqb, append_assoc, length-append, eq-eqb, not}
use Rattle.std.specs.Prelude.{position}
use Rattle.std.specs.List.{prefix_len, position_or_len}
use Rattle.co_schedule.specs.Filling.{IsGrown, IsTakenFrom, IsWithin}
use Rattle.std.proofs.lemmas.List.{take-append-drop, take_rest, length-drop}
use Rattle.std.proofs.Math.Seq.{drop-append_seam}
use Rattle.std.proofs.lemmas.List.Folds.{prefix_len-append}
use Rattle.std.proofs.lemmas.List.Sums.{prefix_len-le-length}
use Rattle.std.proofs.lemmas.Bool.{ltb-true, ltb-false, lt-ltb, le-ltb, ne_eqb}

-- a piece that was taken goes behind what is held
pub piece_taken : (told : Option (List ℕ)) (piece held new bytes : List ℕ) → piece ≡ take (length piece) bytes → told ≡ Some (drop (length piece) bytes) → new ≡ held ++ piece → (rest : List ℕ) × (told ≡ Some rest) × (new ++ rest ≡ held ++ bytes)
piece_taken told piece held new bytes front rest e =
    (drop (length piece) bytes, rest, ap (λ (l : List ℕ). l ++ drop (length piece) bytes) e ∙ append_assoc held piece (drop (length piece) bytes) ∙ ap (λ (l : List ℕ). held ++ l) (ap (λ (l : List ℕ). l ++ drop (length piece) bytes) front ∙ take-append-drop (length piece) bytes))

-- nothing was taken
pub nothing_taken : (told : Option (List ℕ)) (held bytes : List ℕ) → told ≡ Some (drop 0 bytes) → (rest : List ℕ) × (told ≡ Some rest) × (held ++ rest ≡ held ++ bytes)
nothing_taken told held bytes e = (bytes, e, refl)

-- all that was taken is held, and it fits
pub held_within : {S : Type 0} (left : S → Option (List ℕ)) (old new : S) (before held : List ℕ) (room : ℕ) → IsTakenFrom left old new before held → length held ≤ room → IsWithin left old new before room
held_within left old new before held room taken fits bytes after told told_then =
    let it = taken bytes told in
    let same : it.0 ≡ after = (let z : Some it.0 ≡ Some after = sym it.1 ∙ told_then in cc) in
    let size : length held + length after ≡ length before + length bytes = sym (length-append held after) ∙ ap (λ (l : List ℕ). length (held ++ l)) (sym same) ∙ ap length it.2 ∙ length-append before bytes in
    omega (arith, size, fits)

-- a piece was taken, whether it is held or was lost
pub piece_within : {S : Type 0} (left : S → Option (List ℕ)) (old new : S) (held : List ℕ) (count room : ℕ) → ((bytes : List ℕ) → left old ≡ Some bytes → left new ≡ Some (drop count bytes)) → length held + count ≤ room → IsWithin left old new held room
piece_within left old new held count room rest fits bytes after told told_then =
    let same : drop count bytes ≡ after = (let z : Some (drop count bytes) ≡ Some after = sym (rest bytes told) ∙ told_then in cc) in
    let size : length after ≡ length bytes - count = ap length (sym same) ∙ length-drop count bytes in
    omega (arith, size, fits)

-- what was taken first is held, and what was taken then is within the room of it
pub then_within : {S : Type 0} (left : S → Option (List ℕ)) (old mid new : S) (before held : List ℕ) (room : ℕ) → IsTakenFrom left old mid before held → IsWithin left mid new held room → IsWithin left old new before room
then_within left old mid new before held room taken bound bytes after told told_then =
    let it = taken bytes told in
    let size : length held + length it.0 ≡ length before + length bytes = sym (length-append held it.0) ∙ ap length it.2 ∙ length-append before bytes in
    omega (arith, size, bound it.0 after it.1 told_then)

placed : (b : Bool) (n i : ℕ) → cond b (Some n) None ≡ Some i → (b ≡ true) × (n ≡ i)
placed true n i e = (refl, cc)
placed false n i e = absurd cc

unplaced : (b : Bool) (n : ℕ) → cond b (Some n) None ≡ None → b ≡ false
unplaced true n e = absurd cc
unplaced false n e = refl

-- an element passes at this place, and at none before
pub position_some : (p : ℕ → Bool) (xs : List ℕ) (i : ℕ) → position p xs ≡ Some i → (position_or_len p xs ≡ i) × (i < length xs)
position_some p xs i e =
    let it = placed (ltb (position_or_len p xs) (length xs)) (position_or_len p xs) i e in
    let here : position_or_len p xs < length xs = ltb-true _ _ it.0 in
    (it.1, omega (arith, it.1, here))

-- none passes
pub position_none : (p : ℕ → Bool) (xs : List ℕ) → position p xs ≡ None → position_or_len p xs ≡ length xs
position_none p xs e =
    let over : length xs ≤ position_or_len p xs = ltb-false _ _ (unplaced (ltb (position_or_len p xs) (length xs)) (position_or_len p xs) e) in
    let under : position_or_len p xs ≤ length xs = prefix_len-le-length (λ x. not (p x)) xs in
    omega arith

pub some_position : (p : ℕ → Bool) (xs : List ℕ) (i : ℕ) → position_or_len p xs ≡ i → i < length xs → position p xs ≡ Some i
some_position p xs i e small =
    let here : ltb (position_or_len p xs) (length xs) ≡ true = lt-ltb _ _ (omega (arith, e)) in
    rw here (ap Some e)

pub none_position : (p : ℕ → Bool) (xs : List ℕ) → position_or_len p xs ≡ length xs → position p xs ≡ None
none_position p xs e =
    let here : ltb (position_or_len p xs) (length xs) ≡ false = le-ltb _ _ (omega (arith, e)) in
    rw here refl

-- where none of the first ones passes, the others decide
pub passes_behind : (p : ℕ → Bool) (xs ys : List ℕ) → position_or_len p xs ≡ length xs → position_or_len p (xs ++ ys) ≡ length xs + position_or_len p ys
passes_behind p xs ys e =
    let whole : eqb (prefix_len (λ x. not (p x)) xs) (length xs) ≡ true = eq-eqb _ _ e in
    prefix_len-append (λ x. not (p x)) xs ys ∙ rw whole refl

-- where one of the first ones passes, the others do not matter
pub passes_before : (p : ℕ → Bool) (xs ys : List ℕ) (i : ℕ) → position_or_len p xs ≡ i → i < length xs → position_or_len p (xs ++ ys) ≡ i
passes_before p xs ys i e small =
    let part : eqb (prefix_len (λ x. not (p x)) xs) (length xs) ≡ false = ne_eqb _ _ (λ same. omega (arith, e, same)) in
    prefix_len-append (λ x. not (p x)) xs ys ∙ rw part e

pub found_behind : (p : ℕ → Bool) (xs ys : List ℕ) (at : ℕ) → position p xs ≡ None → position p ys ≡ Some at → position p (xs ++ ys) ≡ Some (length xs + at)
found_behind p xs ys at none some =
    let there = position_some p ys at some in
    let size : length (xs ++ ys) ≡ length xs + length ys = length-append xs ys in
    some_position p (xs ++ ys) (length xs + at) (passes_behind p xs ys (position_none p xs none) ∙ ap (λ n. length xs + n) there.0) (omega (arith, there.1, size))

pub none_behind : (p : ℕ → Bool) (xs ys : List ℕ) → position p xs ≡ None → position p ys ≡ None → position p (xs ++ ys) ≡ None
none_behind p xs ys none none_there =
    none_position p (xs ++ ys) (passes_behind p xs ys (position_none p xs none) ∙ ap (λ n. length xs + n) (position_none p ys none_there) ∙ sym (length-append xs ys))

looked_at : (xs ys view : List ℕ) (n : ℕ) (grown : IsGrown xs ys) → view ≡ ys → n ≡ length xs → take (length view - n) (drop n view) ≡ grown.0
looked_at xs ys view n grown same size =
    take_rest view n ∙ ap (λ (l : List ℕ). drop n l) (same ∙ grown.1) ∙ ap (λ (k : ℕ). drop k (xs ++ grown.0)) size ∙ drop-append_seam xs grown.0

-- the first newline of a grown buffer that had none stands in what was taken
pub grown_found : (p : ℕ → Bool) (xs ys view : List ℕ) (n at : ℕ) (o : Option ℕ) → position p xs ≡ None → IsGrown xs ys → view ≡ ys → n ≡ length xs → o ≡ Some at → o ≡ position p (take (length view - n) (drop n view)) → position p ys ≡ Some (n + at)
grown_found p xs ys view n at o none grown same size is e =
    let there : position p grown.0 ≡ Some at = ap (position p) (sym (looked_at xs ys view n grown same size)) ∙ sym e ∙ is in
    ap (position p) grown.1 ∙ found_behind p xs grown.0 at none there ∙ ap (λ k. Some (k + at)) (sym size)

pub grown_none : (p : ℕ → Bool) (xs ys view : List ℕ) (n : ℕ) (o : Option ℕ) → position p xs ≡ None → IsGrown xs ys → view ≡ ys → n ≡ length xs → o ≡ None → o ≡ position p (take (length view - n) (drop n view)) → (position p ys ≡ None) × (length xs < length ys)
grown_none p xs ys view n o none grown same size is e =
    let there : position p grown.0 ≡ None = ap (position p) (sym (looked_at xs ys view n grown same size)) ∙ sym e ∙ is in
    let long : length ys ≡ length xs + length grown.0 = ap length grown.1 ∙ length-append xs grown.0 in
    (ap (position p) grown.1 ∙ none_behind p xs grown.0 none there, omega (arith, grown.2, long))
