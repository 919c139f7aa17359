-- Texts of visible characters.
use Rattle.std.proofs.Common.{◌≡◌, ℕ, true, ◌&&◌, [], ◌∷◌, length, refl}
use Rattle.std.specs.Prelude.{nat_le, All}
use Rattle.std.specs.List.{list_all}
use Rattle.std.proofs.lemmas.List.Elements.{All-nil, All-cons, All-head, All-tail}
use Rattle.std.proofs.lemmas.Bool.{leb-true, le-leb}
use Rattle.co_base.specs.Letters.{IsLetter, IsText}
use Rattle.co_schedule.specs.Words.{Word}
use Rattle.co_schedule.specs.Places.{is_text, is_visible}
use Rattle.co_schedule.proofs.Numbers.{both, and_true}

pub letter_visible : (byte : ℕ) → IsLetter byte → is_visible byte ≡ true
letter_visible byte it = and_true _ _ (le-leb 33 byte it.0) (le-leb byte 126 it.1)

pub visible_letter : (byte : ℕ) → is_visible byte ≡ true → IsLetter byte
visible_letter byte e = let it = both (nat_le 33 byte) (nat_le byte 126) e in (leb-true 33 byte it.0, leb-true byte 126 it.1)

letters_all : (word : Word) → list_all is_visible word ≡ true → All IsLetter word
letters_all [] e = All-nil IsLetter
letters_all (byte ∷ bytes) e =
    let it = both (is_visible byte) (list_all is_visible bytes) e in
    All-cons IsLetter byte bytes (visible_letter byte it.0) (letters_all bytes it.1)

all_visible : (word : Word) → All IsLetter word → list_all is_visible word ≡ true
all_visible [] it = refl
all_visible (byte ∷ bytes) it = and_true _ _ (letter_visible byte (All-head IsLetter byte bytes it)) (all_visible bytes (All-tail IsLetter byte bytes it))

pub IsText-is_text : (most : ℕ) (word : Word) → is_text most word ≡ true → IsText most word
IsText-is_text most word e =
    let outer = both (nat_le 1 (length word) && nat_le (length word) most) (list_all is_visible word) e in
    let inner = both (nat_le 1 (length word)) (nat_le (length word) most) outer.0 in
    ((leb-true _ _ inner.0, leb-true _ _ inner.1), letters_all word outer.1)

pub is_text-IsText : (most : ℕ) (word : Word) → IsText most word → is_text most word ≡ true
is_text-IsText most word it =
    and_true _ _ (and_true _ _ (le-leb _ _ it.0.0) (le-leb _ _ it.0.1)) (all_visible word it.1)
