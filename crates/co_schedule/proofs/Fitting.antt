-- Words that fit the places of a line.
use Rattle.std.proofs.Common.{◌≡◌, ℕ, ◌<◌, ◌≤◌, ◌^◌, Bool, true, false, ◌&&◌, List, [], ◌∷◌, ◌++◌, length, None, refl, ap, ◌∙◌, arith, ◌==◌, ◌||◌, ◌%◌, not, ltb}
use Rattle.std.specs.Prelude.{decimal, codes, All, nat_le}
use Rattle.std.specs.List.{list_all}
use Rattle.std.specs.Ordering.{is_gt}
use Rattle.std.specs.Str.{all_ascii_digits}
use Rattle.std.specs.Char.{is_ascii_digit}
use Rattle.std.proofs.lemmas.Bool.{le-ltb}
use Rattle.std.proofs.lemmas.Fmt.{digits_decimal}
use Rattle.std.proofs.lemmas.Str.Parse.{numerals_by_value, tells_all_ascii_digits}
use Rattle.std.proofs.lemmas.List.Elements.{All-nil, All-cons}
use Rattle.std.proofs.lemmas.List.{append-nil}
use Rattle.std.proofs.lemmas.List.Splits.{slice_split_at, slice_split_none}
use Rattle.std.proofs.lemmas.Bool.Decides.{nat_tests}
use Rattle.co_base.specs.Letters.{IsText, most_key_bytes, most_value_bytes}
use Rattle.co_base.specs.Order.{key_cmp}
use Rattle.hex.specs.Hex.{encode_lower}
use Rattle.co_base.specs.declared.node.Node.{Node}
use Rattle.co_base.specs.declared.node.Node.TheVariants.{Member, Coord}
use Rattle.co_base.specs.declared.leaves.Leaves.{Leaves}
use Rattle.co_base.specs.declared.leaves.Leaves.TheVariants as leaves
use Rattle.co_schedule.specs.Words.{Word, space, behind, spaced, words_of}
use Rattle.co_schedule.specs.Spelling.{member_word, coord_word, node_word, leaves_word, vote_word, decision_word}
use Rattle.co_schedule.specs.Places.{Want, number, member, coord, node, key, key_from, value, one_of, is_in, is_number, is_named, is_visible, is_text, is_lower_digit, is_hex, Places, nothing, place, within, first_fault, go_on}
use Rattle.co_schedule.specs.Places as places
use Rattle.co_schedule.specs.View.{IsWithin, IsNode, IsLeaves, IsKey}
use Rattle.co_schedule.proofs.Numbers.{both, and_true, is_number-decimal}
use Rattle.co_schedule.proofs.Steps.{step_takes}
use Rattle.co_schedule.proofs.Texts.{is_text-IsText}
use Rattle.co_schedule.proofs.Hex.{is_hex-encode_lower}

abbrev pub no_space : Word → Bool
no_space word = list_all (λ byte. not (byte == space)) word

-- the word is wanted, and has no space
pub record Taken (want : Want) (word : Word) : Type 0 where
  pub wanted : is_in want word ≡ true
  pub whole : no_space word ≡ true

-- each word is wanted at its place, and none is missing or too much
abbrev pub Fits : Places → List Word → Type 0
Fits nothing [] = Unit {0}
Fits nothing (word ∷ words) = ⊥
Fits (place want next) [] = ⊥
Fits (place want next) (word ∷ words) = Taken want word × Fits (next word) words
Fits (within most places) words = (length (spaced words) ≤ most) × Fits places words

-- what fits has no fault
pub fits_first_fault : (places : Places) (words : List Word) → Fits places words → first_fault places words ≡ None
fits_first_fault nothing [] it = refl
fits_first_fault nothing (word ∷ words) it = absurd it
fits_first_fault (place want next) [] it = absurd it
fits_first_fault (place want next) (word ∷ words) it =
    ap (λ r. go_on r (λ w ws. first_fault (next w) ws)) (step_takes want word words it.0.wanted) ∙ fits_first_fault (next word) words it.1
fits_first_fault (within most places) words it =
    let short : ltb most (length (spaced words)) ≡ false = le-ltb _ _ it.0 in
    rw short (fits_first_fault places words it.1)

none_is_space : (word : Word) → no_space word ≡ true → All (λ byte. (byte == space) ≡ false) word
none_is_space [] e = All-nil (λ byte. (byte == space) ≡ false)
none_is_space (byte ∷ bytes) e =
    let it = both (not (byte == space)) (no_space bytes) e in
    All-cons (λ b. (b == space) ≡ false) byte bytes (not_true (byte == space) it.0) (none_is_space bytes it.1)
  where
    not_true : (b : Bool) → not b ≡ true → b ≡ false
    not_true true e = absurd cc
    not_true false e = refl

-- the words of words with spaces between them are these words
pub words_of-spaced : (places : Places) (first : Word) (words : List Word) → no_space first ≡ true → Fits places words → words_of (first ++ behind words) ≡ first ∷ words
words_of-spaced nothing first [] whole it = rw append-nil (slice_split_none (λ byte. byte == space) first (none_is_space first whole))
words_of-spaced nothing first (word ∷ words) whole it = absurd it
words_of-spaced (place want next) first [] whole it = absurd it
words_of-spaced (place want next) first (word ∷ words) whole it =
    slice_split_at (λ byte. byte == space) first space (word ++ behind words) (none_is_space first whole) refl
    ∙ ap (λ (rest : List Word). first ∷ rest) (words_of-spaced (next word) word words it.0.whole it.1)
words_of-spaced (within most places) first words whole it = words_of-spaced places first words whole it.1

-- the line of words that fit has these words
pub words_of-fit : (want : Want) (next : Word → Places) (words : List Word) → Fits (place want next) words → words_of (spaced words) ≡ words
words_of-fit want next [] it = absurd it
words_of-fit want next (word ∷ words) it = words_of-spaced (next word) word words it.0.whole it.1

all_weaker : (p q : ℕ → Bool) (word : Word) → ((b : ℕ) → p b ≡ true → q b ≡ true) → list_all p word ≡ true → list_all q word ≡ true
all_weaker p q [] weaker e = refl
all_weaker p q (byte ∷ bytes) weaker e =
    let it = both (p byte) (list_all p bytes) e in
    and_true _ _ (weaker byte it.0) (all_weaker p q bytes weaker it.1)

digits_whole : (digits : Word) → all_ascii_digits digits ≡ true → no_space digits ≡ true
digits_whole digits e = all_weaker is_ascii_digit (λ b. not (b == space)) digits (λ (b : ℕ) (h : is_ascii_digit b ≡ true). grind (arith, nat_tests)) e

visible_whole : (word : Word) → list_all is_visible word ≡ true → no_space word ≡ true
visible_whole word e = all_weaker is_visible (λ b. not (b == space)) word (λ (b : ℕ) (h : is_visible b ≡ true). grind (arith, nat_tests)) e

lower_whole : (word : Word) → list_all is_lower_digit word ≡ true → no_space word ≡ true
lower_whole word e = all_weaker is_lower_digit (λ b. not (b == space)) word (λ (b : ℕ) (h : is_lower_digit b ≡ true). grind (arith, nat_tests)) e

decimal_whole : (n : ℕ) → n < 2 ^ 64 → no_space (decimal n) ≡ true
decimal_whole n small = digits_whole (decimal n) (digits_decimal (numerals_by_value (λ ds. all_ascii_digits ds ≡ true) tells_all_ascii_digits) n small)

pub number_taken : (low high n : ℕ) → low ≤ n → n ≤ high → high < 2 ^ 64 → Taken (number low high) (decimal n)
number_taken low high n over under small = record { wanted = is_number-decimal low high n over under small; whole = decimal_whole n (omega arith) }

pub member_taken : (most n : ℕ) → IsWithin 1 most n → most ≤ 255 → Taken (member most) (member_word n)
member_taken most n it small = record { wanted = is_number-decimal 1 most n it.0 it.1 (omega arith); whole = decimal_whole n (omega (arith, it.1)) }

pub coord_taken : (most n : ℕ) → IsWithin 1 most n → most ≤ 255 → Taken (coord most) (coord_word n)
coord_taken most n it small = record { wanted = is_number-decimal 1 most n it.0 it.1 (omega arith); whole = decimal_whole n (omega (arith, it.1)) }

or_true : (a b : Bool) → a ≡ true → (a || b) ≡ true
or_true true b e = refl
or_true false b e = absurd cc

pub node_taken : (members coords : ℕ) (n : Node) → IsNode members coords n → members ≤ 255 → coords ≤ 255 → Taken (node members coords) (node_word n)
node_taken members coords (Member n) it m c =
    let one = member_taken members n it m in
    record { wanted = or_true (is_named 109 members (member_word n)) (is_named 99 coords (member_word n)) one.wanted; whole = one.whole }
node_taken members coords (Coord n) it m c =
    let one = coord_taken coords n it c in
    record { wanted = one.wanted; whole = one.whole }

text_whole : (most : ℕ) (text : Word) → is_text most text ≡ true → no_space text ≡ true
text_whole most text e = visible_whole text (both (nat_le 1 (length text) && nat_le (length text) most) (list_all is_visible text) e).1

pub key_taken : (text : Word) → IsKey text → Taken key text
key_taken text it =
    let e = is_text-IsText most_key_bytes text it in
    record { wanted = e; whole = text_whole most_key_bytes text e }

pub key_from_taken : (low text : Word) → IsKey text → is_gt (key_cmp low text) ≡ false → Taken (key_from low) text
key_from_taken low text it above =
    let e = is_text-IsText most_key_bytes text it in
    record { wanted = and_true _ _ e (ap not above); whole = text_whole most_key_bytes text e }

pub value_taken : (text : Word) → IsText most_value_bytes text → Taken value text
value_taken text it =
    let e = is_text-IsText most_value_bytes text it in
    record { wanted = e; whole = text_whole most_value_bytes text e }

pub leaves_taken : (l : Leaves) → IsLeaves l → Taken places.leaves (leaves_word l)
leaves_taken leaves.Old it = record { wanted = refl; whole = refl }
leaves_taken leaves.New it = record { wanted = refl; whole = refl }
leaves_taken (leaves.Filled bytes) it =
    let e = is_hex-encode_lower bytes it in
    record { wanted = e; whole = lower_whole (encode_lower bytes) (both (length (encode_lower bytes) % 2 == 0) (list_all is_lower_digit (encode_lower bytes)) e).1 }

pub vote_taken : (b : Bool) → Taken (one_of (codes "yes" ∷ codes "no" ∷ [])) (vote_word b)
vote_taken true = record { wanted = refl; whole = refl }
vote_taken false = record { wanted = refl; whole = refl }

pub decision_taken : (b : Bool) → Taken (one_of (codes "commit" ∷ codes "abort" ∷ [])) (decision_word b)
decision_taken true = record { wanted = refl; whole = refl }
decision_taken false = record { wanted = refl; whole = refl }
