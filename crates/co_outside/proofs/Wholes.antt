-- Pieces of a whole, moved one behind the other.
use Rattle.std.proofs.Common.{◌≡◌, ℕ, ◌+◌, ◌-◌, ◌≤◌, List, [], ◌++◌, length, take, drop, Option, Some, Result, Ok, Err, OnErr, sym, ap, ◌∙◌, append_assoc, length-append}
use Rattle.std.proofs.Math.Seq.{take-add}
use Rattle.std.proofs.lemmas.List.{take-append-drop, append-nil, drop-drop, take_rest, take_all, drop_all}

-- a front of a list, and a front of the rest of it behind that
pub more_read : (held input bytes : List ℕ) → input ≡ take (length input) held → bytes ≡ take (length bytes) (drop (length input) held)
    → input ++ bytes ≡ take (length (input ++ bytes)) held
more_read held input bytes front next =
    ap (λ xs. xs ++ bytes) front ∙ ap (λ ys. take (length input) held ++ ys) next
    ∙ sym (take-add (length input) (length bytes) held) ∙ ap (λ n. take n held) (sym (length-append input bytes))

pub less_left : (held input bytes : List ℕ) → drop (length bytes) (drop (length input) held) ≡ drop (length (input ++ bytes)) held
less_left held input bytes = drop-drop (length bytes) (length input) held ∙ ap (λ n. drop n held) (sym (length-append input bytes))

-- where nothing is left, the front is the whole
whole : (held input : List ℕ) → input ≡ take (length input) held → drop (length input) held ≡ [] → held ≡ input
whole held input front none =
    sym (take-append-drop (length input) held) ∙ ap (λ xs. take (length input) held ++ xs) none ∙ append-nil (take (length input) held) ∙ sym front

pub all_read : (held input : List ℕ) (most : ℕ) → input ≡ take (length input) held → drop (length input) held ≡ [] → length input ≤ most → input ≡ take most held
all_read held input most front none within =
    let same : held ≡ input = whole held input front none in
    sym (ap (take most) same ∙ take_all most input within)

pub none_left : (held input : List ℕ) (most : ℕ) → input ≡ take (length input) held → drop (length input) held ≡ [] → length input ≤ most → drop (length input) held ≡ drop most held
none_left held input most front none within =
    let same : held ≡ input = whole held input front none in
    none ∙ sym (ap (drop most) same ∙ drop_all most input within)

-- a front of a piece is held, and then a front of its rest
pub more_held : (held piece : List ℕ) (done count : ℕ) → (held ++ take done piece) ++ take count (take (length piece - done) (drop done piece)) ≡ held ++ take (done + count) piece
more_held held piece done count =
    append_assoc held (take done piece) (take count (take (length piece - done) (drop done piece)))
    ∙ ap (λ xs. held ++ (take done piece ++ take count xs)) (take_rest piece done)
    ∙ ap (λ xs. held ++ xs) (sym (take-add done count piece))

-- a fault says how far it came
pub left_at_fault : {X E : Type 0} (result : Result X E) (left : Option (List ℕ)) (held : List ℕ) (count : ℕ) → left ≡ Some (drop count held)
    → OnErr result ((taken : ℕ) × (left ≡ Some (drop taken held)))
left_at_fault (Ok x) left held count is = tt
left_at_fault (Err e) left held count is = (count, is)

pub held_at_fault : {X E : Type 0} (result : Result X E) (told : Option (List ℕ)) (held piece : List ℕ) (count : ℕ) → told ≡ Some (held ++ take count piece)
    → OnErr result ((taken : ℕ) × (told ≡ Some (held ++ take taken piece)))
held_at_fault (Ok x) told held piece count is = tt
held_at_fault (Err e) told held piece count is = (count, is)

pub took_at_fault : {X E : Type 0} (result : Result X E) (took held piece : List ℕ) (count : ℕ) → took ≡ held ++ take count piece
    → OnErr result ((done : ℕ) × (took ≡ held ++ take done piece))
took_at_fault (Ok value) took held piece count is = tt
took_at_fault (Err fault) took held piece count is = (count, is)
