-- Numbers in their one spelling.
use Rattle.std.proofs.Common.{◌≡◌, ℕ, ◌<◌, ◌≤◌, ◌^◌, Bool, true, false, ◌&&◌, refl, sym, ap, ◌∙◌, arith}
use Rattle.std.specs.Prelude.{decimal, nat_le}
use Rattle.std.specs.Str.{bytes_eq}
use Rattle.std.specs.Str.Parse.{digits_value}
use Rattle.std.proofs.lemmas.Fmt.{decimal_is_IsNumeral}
use Rattle.std.proofs.lemmas.Slice.Eq.{bytes_eq-Decides}
use Rattle.std.proofs.lemmas.Bool.{leb-true, le-leb}
use Rattle.co_schedule.specs.Words.{Word}
use Rattle.co_schedule.specs.Places.{is_number}

-- both tests hold where their conjunction does
pub both : (a b : Bool) → (a && b) ≡ true → (a ≡ true) × (b ≡ true)
both true b e = (refl, e)
both false b e = absurd cc

pub and_true : (a b : Bool) → a ≡ true → b ≡ true → (a && b) ≡ true
and_true true b e f = f
and_true false b e f = absurd cc

pub value_of-decimal : (n : ℕ) → n < 2 ^ 64 → digits_value 10 (decimal n) ≡ n
value_of-decimal n small = (decimal_is_IsNumeral n small).1

-- what is written of a number is its spelling
pub is_number-decimal : (low high n : ℕ) → low ≤ n → n ≤ high → high < 2 ^ 64 → is_number low high (decimal n) ≡ true
is_number-decimal low high n over under small =
    let value = value_of-decimal n (omega arith) in
    rw value (and_true _ _ (and_true _ _ ((bytes_eq-Decides (decimal n) (decimal n)).1 refl) (le-leb low n over)) (le-leb n high under))

-- a spelling of a number is what is written of it
pub is_number-true : (low high : ℕ) (word : Word) → is_number low high word ≡ true → (low ≤ digits_value 10 word) × (digits_value 10 word ≤ high) × (word ≡ decimal (digits_value 10 word))
is_number-true low high word e =
    let first = both (bytes_eq word (decimal (digits_value 10 word)) && nat_le low (digits_value 10 word)) (nat_le (digits_value 10 word) high) e in
    let second = both (bytes_eq word (decimal (digits_value 10 word))) (nat_le low (digits_value 10 word)) first.0 in
    (leb-true _ _ second.1, leb-true _ _ first.1, (bytes_eq-Decides word (decimal (digits_value 10 word))).0 second.0)

-- a test that cannot hold does not
pub never : (b : Bool) → (b ≡ true → ⊥) → false ≡ b
never true h = absurd (h refl)
never false h = refl

pub test-within : (low high n : ℕ) (word : Word) → word ≡ decimal n → low ≤ n → n ≤ high → high < 2 ^ 64 → true ≡ is_number low high word
test-within low high n word e over under small = rw e (sym (is_number-decimal low high n over under (omega arith)))

pub test-outside : (low high n : ℕ) (word : Word) → word ≡ decimal n → n < 2 ^ 64 → (low ≤ n → n ≤ high → ⊥) → false ≡ is_number low high word
test-outside low high n word e small outside =
    never _ (λ (t : is_number low high word ≡ true).
    let it = is_number-true low high word t in
    let same : digits_value 10 word ≡ n = ap (digits_value 10) e ∙ value_of-decimal n (omega arith) in
    outside (omega (arith, it.0, same)) (omega (arith, it.1, same)))
