-- Decimal digits are letters, so a value may have them.
use Rattle.std.proofs.Common.{◌≡◌, ℕ, ◌<◌, ◌^◌, Bool, true, false, ◌&&◌, List, [], ◌∷◌, refl, lit≤, arith}
use Rattle.std.specs.Prelude.{decimal, All}
use Rattle.std.specs.List.{list_all}
use Rattle.std.specs.Str.{all_ascii_digits}
use Rattle.std.specs.Char.{is_ascii_digit}
use Rattle.std.proofs.lemmas.Fmt.{digits_decimal}
use Rattle.std.proofs.lemmas.Str.Parse.{numerals_by_value, tells_all_ascii_digits}
use Rattle.std.proofs.lemmas.List.Elements.{All-nil, All-cons}
use Rattle.std.proofs.lemmas.Bool.Decides.{nat_tests}
use Rattle.co_base.specs.Letters.{IsLetter}

digit_is_letter : (d : ℕ) → is_ascii_digit d ≡ true → IsLetter d
digit_is_letter d e = (grind (arith, nat_tests), grind (arith, nat_tests))

both : (a b : Bool) → (a && b) ≡ true → (a ≡ true) × (b ≡ true)
both true b e = (refl, e)
both false b e = absurd cc

digits_are_letters : (ds : List ℕ) → list_all is_ascii_digit ds ≡ true → All IsLetter ds
digits_are_letters [] e = All-nil IsLetter
digits_are_letters (d ∷ ds) e =
    let it = both (is_ascii_digit d) (list_all is_ascii_digit ds) e in
    All-cons IsLetter d ds (digit_is_letter d it.0) (digits_are_letters ds it.1)

pub value_letters : (n : ℕ) → n < 2 ^ 64 → All IsLetter (118 ∷ decimal n)
value_letters n small =
    let v : IsLetter 118 = (lit≤ tt, lit≤ tt) in
    All-cons IsLetter 118 (decimal n) v
    (digits_are_letters (decimal n) (digits_decimal (numerals_by_value (λ ds. all_ascii_digits ds ≡ true) tells_all_ascii_digits) n small))
