-- A line without its newline.
use Rattle.std.proofs.Common.{◌≡◌, ◌≤◌, ℕ, ◌+◌, ◌-◌, List, [], ◌∷◌, ◌++◌, length, take, drop, min, refl, sym, ap, append-nil, length-drop, ◌<◌, ◌∙◌, subst, arith}
use Rattle.std.proofs.Math.Seq.{take-append_seam}
use Rattle.std.proofs.lemmas.List.{length-append, take-append-drop}

shorter : (text : List ℕ) → length (text ++ 10 ∷ []) - 1 ≡ length text
shorter text = omega (arith, length-append text (10 ∷ []))

pub without_newline : (line text : List ℕ) → line ≡ text ++ 10 ∷ [] → take (length line - 1) line ≡ text
without_newline line text e =
    ap (λ l. take (length l - 1) l) e ∙ ap (λ n. take n (text ++ 10 ∷ [])) (shorter text) ∙ take-append_seam text (10 ∷ [])

pub long_line : (line text : List ℕ) → line ≡ text ++ 10 ∷ [] → 1 ≤ length line
long_line line text e = omega (arith, ap length e, length-append text (10 ∷ []))

whole : (xs : List ℕ) → take (length xs) xs ≡ xs
whole xs = ap (λ l. take (length xs) l) (sym (append-nil xs)) ∙ take-append_seam xs []

-- what stands behind so many letters, all of it
pub all_behind : (k : ℕ) (xs : List ℕ) → take (length xs - k) (drop k xs) ≡ drop k xs
all_behind k xs = ap (λ n. take n (drop k xs)) (sym (length-drop k xs)) ∙ whole (drop k xs)

-- a front of a longer text has all its letters
pub long_front : (k : ℕ) (xs : List ℕ) → k < length xs → k ≡ length (take k xs)
long_front k xs more =
    let parts = ap length (take-append-drop k xs) in
    let sum = length-append (take k xs) (drop k xs) in
    let rest = length-drop k xs in
    omega (arith, parts, sum, rest, more)
