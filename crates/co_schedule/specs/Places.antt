-- What may stand at each place of a line, and the first place from the left that has something else.
use Rattle.std.specs.Prelude.{ℕ, ◌==◌, ◌%◌, nat_le, nat_lt, Bool, false, ◌&&◌, ◌||◌, not, if◌then◌else◌, List, [], ◌∷◌, length, Option, None, Some, Result, Ok, Err, codes, decimal}
use Rattle.std.specs.List.{list_all, list_any}
use Rattle.std.specs.Str.{bytes_eq}
use Rattle.std.specs.Str.Parse.{digits_value}
use Rattle.std.specs.Ordering.{is_gt, is_lt}
use Rattle.co_base.specs.Order.{key_cmp}
use Rattle.co_base.specs.Letters.{most_key_bytes, most_value_bytes}
use Rattle.co_schedule.specs.Words.{Word, spaced}
use Rattle.co_schedule.specs.declared.fault.LineKind.{LineKind}
use Rattle.co_schedule.specs.declared.fault.LineKind.TheVariants as kind
use Rattle.co_schedule.specs.declared.fault.Mistake.{Mistake}

-- what a place wants
pub data Want : Type 0 where
  number : ℕ → ℕ → Want
  member : ℕ → Want
  coord : ℕ → Want
  node : ℕ → ℕ → Want
  key : Want
  key_from : Word → Want
  key_above : Word → Want
  value : Want
  one_of : List Word → Want
  leaves : Want

-- a number within bounds, spelled as numbers are written
abbrev pub is_number : ℕ → ℕ → Word → Bool
is_number low high word = bytes_eq word (decimal (digits_value 10 word)) && nat_le low (digits_value 10 word) && nat_le (digits_value 10 word) high

-- a letter, and a number from 1 on
abbrev pub is_named : ℕ → ℕ → Word → Bool
is_named letter most [] = false
is_named letter most (first ∷ digits) = first == letter && is_number 1 most digits

-- a visible character of ASCII
abbrev pub is_visible : ℕ → Bool
is_visible byte = nat_le 33 byte && nat_le byte 126

-- 1 to `most` visible characters
abbrev pub is_text : ℕ → Word → Bool
is_text most word = nat_le 1 (length word) && nat_le (length word) most && list_all is_visible word

-- a digit of a byte, in lower case
abbrev pub is_lower_digit : ℕ → Bool
is_lower_digit byte = (nat_le 48 byte && nat_le byte 57) || (nat_le 97 byte && nat_le byte 102)

-- two digits for each byte
abbrev pub is_hex : Word → Bool
is_hex digits = length digits % 2 == 0 && list_all is_lower_digit digits

-- `old`, `new`, or `x` and digits
abbrev pub is_filled : Word → Bool
is_filled [] = false
is_filled (first ∷ digits) = first == 120 && is_hex digits

abbrev pub is_leaves : Word → Bool
is_leaves word = bytes_eq word (codes "old") || bytes_eq word (codes "new") || is_filled word

-- whether the word is what the place wants
abbrev pub is_in : Want → Word → Bool
is_in (number low high) word = is_number low high word
is_in (member most) word = is_named 109 most word
is_in (coord most) word = is_named 99 most word
is_in (node members coords) word = is_named 109 members word || is_named 99 coords word
is_in key word = is_text most_key_bytes word
is_in (key_from low) word = is_text most_key_bytes word && not (is_gt (key_cmp low word))
is_in (key_above before) word = is_text most_key_bytes word && is_lt (key_cmp before word)
is_in value word = is_text most_value_bytes word
is_in (one_of words) word = list_any (λ known. bytes_eq known word) words
is_in leaves word = is_leaves word

-- the kind of fault where a word is not what the place wants
abbrev pub kind_of : Want → LineKind
kind_of (number low high) = kind.Number
kind_of (one_of words) = kind.Word
kind_of leaves = kind.Word
kind_of _ = kind.Name

-- an empty word is no word, whatever is wanted
abbrev pub kind_at : LineKind → Word → LineKind
kind_at otherwise word = if length word == 0 then kind.Word else otherwise

-- the faults, with the count of bytes from there to the end of the line: a word is wrong,
abbrev pub wrong : Want → List Word → Mistake
wrong want [] = record { kind = kind.Word; left = 0 }
wrong want (word ∷ words) = record { kind = kind_at (kind_of want) word; left = length (spaced (word ∷ words)) }

-- a word is missing at the end,
abbrev pub missing : Mistake
missing = record { kind = kind.Word; left = 0 }

-- a word stands behind the last one,
abbrev pub extra : List Word → Mistake
extra words = record { kind = kind.Extra; left = length (spaced words) }

-- or what is left is too long, and is not looked at
abbrev pub too_long : List Word → Mistake
too_long words = record { kind = kind.Word; left = length (spaced words) }

-- one place: the word that stands there, and the words behind it
unfoldable pub step : Want → List Word → Result (Word × List Word) Mistake
step want [] = Err missing
step want (word ∷ words) = if is_in want word then Ok (word, words) else Err (wrong want (word ∷ words))

-- the places of a line from left to right: nothing more; a place, where what follows may depend on its
-- word; or places for words that have so many bytes at most, with the spaces between them
pub data Places : Type 0 where
  nothing : Places
  place : Want → (Word → Places) → Places
  within : ℕ → Places → Places

-- a place, whatever stands there
infixr 6 ◌▸◌
abbrev pub ◌▸◌ : Want → Places → Places
want ▸ places = place want (λ _. places)

abbrev pub ended : List Word → Option Mistake
ended [] = None
ended (word ∷ words) = Some (extra (word ∷ words))

abbrev pub go_on : Result (Word × List Word) Mistake → (Word → List Word → Option Mistake) → Option Mistake
go_on (Ok taken) next = next taken.0 taken.1
go_on (Err mistake) next = Some mistake

-- the first fault from the left, where there is one
abbrev pub first_fault : Places → List Word → Option Mistake
first_fault nothing words = ended words
first_fault (within most places) words = if nat_lt most (length (spaced words)) then Some (too_long words) else first_fault places words
first_fault (place want behind_it) words = go_on (step want words) (λ word rest. first_fault (behind_it word) rest)
