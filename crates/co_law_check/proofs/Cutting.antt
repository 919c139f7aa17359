-- The text of items is cut back into their lines: no item has a newline within its text.
use Rattle.std.proofs.Common.{◌≡◌, ℕ, suc, ◌+◌, ◌<◌, ◌^◌, Bool, true, false, not, ◌||◌, ◌==◌, ltb, List, [], ◌∷◌, ◌++◌, length, length-append, None, Some, cond, refl, sym, ap, ◌∙◌, subst, arith}
use Rattle.std.specs.Prelude.{decimal, codes, position}
use Rattle.std.specs.List.{list_all, list_any, position_or_len, AllByRecursion}
use Rattle.std.specs.Char.{is_ascii_digit}
use Rattle.std.specs.Str.{all_ascii_digits, bytes_eq}
use Rattle.std.specs.Str.Parse.{digits_value}
use Rattle.std.proofs.lemmas.Bool.Decides.{nat_tests}
use Rattle.std.proofs.lemmas.Bool.{lt-ltb}
use Rattle.std.proofs.lemmas.Fmt.{digits_decimal}
use Rattle.std.proofs.lemmas.Slice.Eq.{bytes_eq-Decides}
use Rattle.std.proofs.lemmas.Str.Parse.{numerals_by_value, tells_all_ascii_digits}
use Rattle.co_schedule.specs.LineText.{newline, is_newline}
use Rattle.co_schedule.specs.Places.{Want, number, member, coord, node, key, key_from, key_above, value, one_of, is_in, is_number, is_named, is_visible, is_text, is_lower_digit, is_hex, is_filled, is_leaves, Places, nothing, place, within}
use Rattle.co_schedule.specs.Places as places
use Rattle.co_schedule.specs.Words.{Word, behind, spaced}
use Rattle.co_schedule.proofs.Fitting.{Fits}
use Rattle.co_schedule.proofs.Numbers.{both, and_true, is_number-true}

-- no byte of the word is a newline
abbrev pub no_newline : Word → Bool
no_newline word = list_all (λ byte. not (is_newline byte)) word

all_weaker : (p q : ℕ → Bool) (word : Word) → ((b : ℕ) → p b ≡ true → q b ≡ true) → list_all p word ≡ true → list_all q word ≡ true
all_weaker p q [] weaker e = refl
all_weaker p q (byte ∷ bytes) weaker e = let it = both (p byte) (list_all p bytes) e in and_true _ _ (weaker byte it.0) (all_weaker p q bytes weaker it.1)

-- ---- words

decimal_clean : (n : ℕ) → n < 2 ^ 64 → no_newline (decimal n) ≡ true
decimal_clean n small =
    all_weaker is_ascii_digit (λ b. not (is_newline b)) (decimal n) (λ (b : ℕ) (h : is_ascii_digit b ≡ true). grind (arith, nat_tests))
    (digits_decimal (numerals_by_value (λ ds. all_ascii_digits ds ≡ true) tells_all_ascii_digits) n small)

visible_clean : (word : Word) → list_all is_visible word ≡ true → no_newline word ≡ true
visible_clean word e = all_weaker is_visible (λ b. not (is_newline b)) word (λ (b : ℕ) (h : is_visible b ≡ true). grind (arith, nat_tests)) e

text_clean : (most : ℕ) (word : Word) → is_text most word ≡ true → no_newline word ≡ true
text_clean most word e = visible_clean word (both _ (list_all is_visible word) e).1

number_clean : (low high : ℕ) (word : Word) → high < 2 ^ 64 → is_number low high word ≡ true → no_newline word ≡ true
number_clean low high word small e = let it = is_number-true low high word e in subst (λ w. no_newline w ≡ true) (sym it.2) (decimal_clean (digits_value 10 word) (omega (arith, it.1, small)))

named_clean : (letter most : ℕ) (word : Word) → not (is_newline letter) ≡ true → most < 2 ^ 64 → is_named letter most word ≡ true → no_newline word ≡ true
named_clean letter most [] l small e = absurd (let z : false ≡ true = e in cc)
named_clean letter most (first ∷ digits) l small e =
    let it = both (first == letter) (is_number 1 most digits) e in
    and_true _ _ (let same : first ≡ letter = grind (arith, nat_tests, it.0) in ap (λ b. not (is_newline b)) same ∙ l) (number_clean 1 most digits small it.1)

either : {A : Type 0} (x y : Bool) → (x ≡ true → A) → (y ≡ true → A) → (x || y) ≡ true → A
either true y f g e = f refl
either false y f g e = g e

leaves_clean : (word : Word) → is_leaves word ≡ true → no_newline word ≡ true
leaves_clean word e =
    either (bytes_eq word (codes "old") || bytes_eq word (codes "new")) (is_filled word)
    (either (bytes_eq word (codes "old")) (bytes_eq word (codes "new")) (λ h. ap no_newline ((bytes_eq-Decides word (codes "old")).0 h)) (λ h. ap no_newline ((bytes_eq-Decides word (codes "new")).0 h)))
    (filled word) e
  where
    filled : (word : Word) → is_filled word ≡ true → no_newline word ≡ true
    filled [] h = absurd (let z : false ≡ true = h in cc)
    filled (first ∷ digits) h =
        let it = both (first == 120) (is_hex digits) h in
        and_true _ _ (let same : first ≡ 120 = grind (arith, nat_tests, it.0) in ap (λ b. not (is_newline b)) same)
        (all_weaker is_lower_digit (λ b. not (is_newline b)) digits (λ (b : ℕ) (k : is_lower_digit b ≡ true). grind (arith, nat_tests)) (both _ (list_all is_lower_digit digits) it.1).1)

-- words to choose from without newlines, and numbers within 64 bits
abbrev pub IsCleanWant : Want → Type 0
IsCleanWant (number low high) = high < 2 ^ 64
IsCleanWant (member most) = most < 2 ^ 64
IsCleanWant (coord most) = most < 2 ^ 64
IsCleanWant (node members coords) = (members < 2 ^ 64) × (coords < 2 ^ 64)
IsCleanWant (one_of words) = list_all no_newline words ≡ true
IsCleanWant _ = Unit {0}

chosen_clean : (words : List Word) (word : Word) → list_all no_newline words ≡ true → list_any (λ known. bytes_eq known word) words ≡ true → no_newline word ≡ true
chosen_clean [] word c e = absurd (let z : false ≡ true = e in cc)
chosen_clean (known ∷ words) word c e =
    let it = both (no_newline known) (list_all no_newline words) c in
    either (bytes_eq known word) (list_any (λ known. bytes_eq known word) words) (λ h. subst (λ w. no_newline w ≡ true) ((bytes_eq-Decides known word).0 h) it.0) (chosen_clean words word it.1) e

wanted_clean : (want : Want) (word : Word) → IsCleanWant want → is_in want word ≡ true → no_newline word ≡ true
wanted_clean (number low high) word c e = number_clean low high word c e
wanted_clean (member most) word c e = named_clean 109 most word refl c e
wanted_clean (coord most) word c e = named_clean 99 most word refl c e
wanted_clean (node members coords) word c e = either (is_named 109 members word) (is_named 99 coords word) (named_clean 109 members word refl c.0) (named_clean 99 coords word refl c.1) e
wanted_clean key word c e = text_clean _ word e
wanted_clean (key_from low) word c e = text_clean _ word (both _ _ e).0
wanted_clean (key_above before) word c e = text_clean _ word (both _ _ e).0
wanted_clean value word c e = text_clean _ word e
wanted_clean (one_of words) word c e = chosen_clean words word c e
wanted_clean places.leaves word c e = leaves_clean word e

-- ---- words in their places

abbrev pub AreClean : Places → Type 0
AreClean nothing = Unit {0}
AreClean (place want next) = IsCleanWant want × ((word : Word) → AreClean (next word))
AreClean (within most places) = AreClean places

words_clean : (places : Places) (words : List Word) → AreClean places → Fits places words → AllByRecursion (λ word. no_newline word ≡ true) words
words_clean nothing [] c f = tt
words_clean nothing (word ∷ words) c f = absurd f
words_clean (place want next) [] c f = absurd f
words_clean (place want next) (word ∷ words) c f = (wanted_clean want word c.0 f.0.wanted, words_clean (next word) words (c.1 word) f.1)
words_clean (within most places) words c f = words_clean places words c f.1

all_append : (p : ℕ → Bool) (xs ys : List ℕ) → list_all p xs ≡ true → list_all p ys ≡ true → list_all p (xs ++ ys) ≡ true
all_append p [] ys e f = f
all_append p (x ∷ xs) ys e f = let it = both (p x) (list_all p xs) e in and_true _ _ it.0 (all_append p xs ys it.1 f)

behind_clean : (words : List Word) → AllByRecursion (λ word. no_newline word ≡ true) words → no_newline (behind words) ≡ true
behind_clean [] c = refl
behind_clean (word ∷ words) c = all_append (λ byte. not (is_newline byte)) word (behind words) c.0 (behind_clean words c.1)

spaced_clean : (words : List Word) → AllByRecursion (λ word. no_newline word ≡ true) words → no_newline (spaced words) ≡ true
spaced_clean [] c = refl
spaced_clean (word ∷ words) c = all_append (λ byte. not (is_newline byte)) word (behind words) c.0 (behind_clean words c.1)

pub text_of_clean : (places : Places) (words : List Word) → AreClean places → Fits places words → no_newline (spaced words) ≡ true
text_of_clean places words c f = spaced_clean words (words_clean places words c f)

-- ---- a line with its newline

place_of_newline : (text : List ℕ) → no_newline text ≡ true → position_or_len is_newline (text ++ newline ∷ []) ≡ length text
place_of_newline [] e = refl
place_of_newline (byte ∷ bytes) e =
    let it = both (not (is_newline byte)) (no_newline bytes) e in
    ap (λ b. cond b (1 + position_or_len is_newline (bytes ++ newline ∷ [])) 0) it.0 ∙ ap (λ n. 1 + n) (place_of_newline bytes it.1) ∙ (let q : 1 + length bytes ≡ suc (length bytes) = omega arith in q)

pub newline_at : (text : List ℕ) → no_newline text ≡ true → position is_newline (text ++ newline ∷ []) ≡ Some (length text)
newline_at text e =
    let at = place_of_newline text e in
    let few : ltb (length text) (length (text ++ newline ∷ [])) ≡ true = lt-ltb _ _ (omega (arith, length-append text (newline ∷ []))) in
    ap (λ n. cond (ltb n (length (text ++ newline ∷ []))) (Some n) None) at ∙ ap (λ b. cond b (Some (length text)) None) few
