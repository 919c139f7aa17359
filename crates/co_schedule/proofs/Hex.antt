-- Lower-case digits are what is written of their bytes.
use Rattle.std.proofs.Common.{◌≡◌, ℕ, zero, suc, ◌+◌, ◌-◌, ◌*◌, ◌/◌, ◌%◌, ◌<◌, ◌≤◌, Bool, true, false, List, [], ◌∷◌, length, Some, Result, Ok, Err, refl, sym, ap, ◌∙◌, arith, ◌⊎◌, inl, inr, ◌||◌, ◌&&◌, slice_index, ◌==◌, subst, eq-eqb}
use Rattle.std.specs.Prelude.{nat_lt, nat_le, if◌then◌else◌}
use Rattle.std.specs.List.{list_all}
use Rattle.std.specs.Result.{result_unwrap_or}
use Rattle.std.proofs.lemmas.Bool.{leb-true, eqb-true}
use Rattle.std.proofs.lemmas.Bool.Decides.{nat_tests}
use Rattle.hex.specs.Hex.{lower_digits, hex_digit_value, decode_pairs, decode_of, encode_with, encode_lower, pair_value}
use Rattle.hex.specs.Hex.{IsBytes}
use Rattle.hex.specs.declared.error.FromHexError.{FromHexError}
use Rattle.hex.specs.declared.error.FromHexError.TheVariants.{OutOfMemory}
use Rattle.hex.proofs.HexLemmas.{decode_of-even, decode_of-ok, length-encode_with}
use Rattle.co_schedule.specs.Places.{is_lower_digit, is_hex}
use Rattle.co_schedule.specs.View.{decoded}
use Rattle.co_schedule.proofs.Numbers.{both, and_true}

-- the digit of a value
pub digit_of : (k : ℕ) → k < 16 → slice_index lower_digits k ≡ (if nat_lt k 10 then 48 + k else 87 + k)
digit_of zero h = refl
digit_of (suc zero) h = refl
digit_of (suc (suc zero)) h = refl
digit_of (suc (suc (suc zero))) h = refl
digit_of (suc (suc (suc (suc zero)))) h = refl
digit_of (suc (suc (suc (suc (suc zero))))) h = refl
digit_of (suc (suc (suc (suc (suc (suc zero)))))) h = refl
digit_of (suc (suc (suc (suc (suc (suc (suc zero))))))) h = refl
digit_of (suc (suc (suc (suc (suc (suc (suc (suc zero)))))))) h = refl
digit_of (suc (suc (suc (suc (suc (suc (suc (suc (suc zero))))))))) h = refl
digit_of (suc (suc (suc (suc (suc (suc (suc (suc (suc (suc zero)))))))))) h = refl
digit_of (suc (suc (suc (suc (suc (suc (suc (suc (suc (suc (suc zero))))))))))) h = refl
digit_of (suc (suc (suc (suc (suc (suc (suc (suc (suc (suc (suc (suc zero)))))))))))) h = refl
digit_of (suc (suc (suc (suc (suc (suc (suc (suc (suc (suc (suc (suc (suc zero))))))))))))) h = refl
digit_of (suc (suc (suc (suc (suc (suc (suc (suc (suc (suc (suc (suc (suc (suc zero)))))))))))))) h = refl
digit_of (suc (suc (suc (suc (suc (suc (suc (suc (suc (suc (suc (suc (suc (suc (suc zero))))))))))))))) h = refl
digit_of (suc (suc (suc (suc (suc (suc (suc (suc (suc (suc (suc (suc (suc (suc (suc (suc k)))))))))))))))) h = absurd (omega arith)

either_true : (a b : Bool) → (a || b) ≡ true → (a ≡ true) ⊎ (b ≡ true)
either_true true b e = inl refl
either_true false b e = inr e

low_digit : (a : ℕ) → nat_le 48 a ≡ true → nat_le a 57 ≡ true → (a - 48 < 16) × (hex_digit_value a ≡ Some (a - 48)) × (slice_index lower_digits (a - 48) ≡ a)
low_digit a over under =
    let low : 48 ≤ a = leb-true 48 a over in
    let high : a ≤ 57 = leb-true a 57 under in
    let small : a - 48 < 16 = omega arith in
    (small, grind (arith, nat_tests), digit_of (a - 48) small ∙ grind (arith, nat_tests))

high_digit : (a : ℕ) → nat_le 97 a ≡ true → nat_le a 102 ≡ true → (a - 87 < 16) × (hex_digit_value a ≡ Some (a - 87)) × (slice_index lower_digits (a - 87) ≡ a)
high_digit a over under =
    let low : 97 ≤ a = leb-true 97 a over in
    let high : a ≤ 102 = leb-true a 102 under in
    let small : a - 87 < 16 = omega arith in
    (small, grind (arith, nat_tests), digit_of (a - 87) small ∙ grind (arith, nat_tests))

-- a lower-case digit has a value, and is the digit of its value
pub digit_value : (a : ℕ) → is_lower_digit a ≡ true → (v : ℕ) × (v < 16) × (hex_digit_value a ≡ Some v) × (slice_index lower_digits v ≡ a)
digit_value a e =
    elim (either_true (nat_le 48 a && nat_le a 57) (nat_le 97 a && nat_le a 102) e) [
      | inl l ↦ let it = both (nat_le 48 a) (nat_le a 57) l in let r = low_digit a it.0 it.1 in (a - 48, r.0, r.1, r.2)
      | inr h ↦ let it = both (nat_le 97 a) (nat_le a 102) h in let r = high_digit a it.0 it.1 in (a - 87, r.0, r.1, r.2)
    ]

pairs : (i : ℕ) (digits : List ℕ) → length digits % 2 ≡ 0 → list_all is_lower_digit digits ≡ true → (bytes : List ℕ) × (decode_pairs i digits ≡ Ok bytes) × (encode_lower bytes ≡ digits)
unfolding decode_pairs encode_with
pairs i [] even e = ([], refl, refl)
pairs i (a ∷ []) even e = absurd (omega arith)
pairs i (a ∷ b ∷ rest) even e =
    let first = both (is_lower_digit a) (is_lower_digit b && list_all is_lower_digit rest) e in
    let second = both (is_lower_digit b) (list_all is_lower_digit rest) first.1 in
    let high = digit_value a first.0 in
    let low = digit_value b second.0 in
    let others = pairs (i + 2) rest (omega arith) second.1 in
    let one : pair_value a b i ≡ Ok (high.0 * 16 + low.0) = rw (high.2, low.2) refl in
    let top : (high.0 * 16 + low.0) / 16 ≡ high.0 = omega (arith, low.1) in
    let bottom : (high.0 * 16 + low.0) % 16 ≡ low.0 = omega (arith, low.1) in
    ((high.0 * 16 + low.0) ∷ others.0, rw (one, others.1) refl, rw (top, bottom, high.3, low.3, others.2) refl)

decodes : (digits : List ℕ) → is_hex digits ≡ true → (bytes : List ℕ) × (decode_of digits ≡ Ok bytes) × (encode_lower bytes ≡ digits)
decodes digits e =
    let it = both (length digits % 2 == 0) (list_all is_lower_digit digits) e in
    let even : length digits % 2 ≡ 0 = eqb-true _ _ it.0 in
    let found = pairs 0 digits even it.1 in
    (found.0, decode_of-even digits even ∙ found.1, found.2)

decoded-ok : (digits bytes : List ℕ) → decode_of digits ≡ Ok bytes → decoded digits ≡ bytes
decoded-ok digits bytes e = ap (λ (r : Result (List ℕ) FromHexError). result_unwrap_or r []) e

-- lower-case digits are what is written of their bytes
pub encode_lower-decoded : (digits : List ℕ) → is_hex digits ≡ true → encode_lower (decoded digits) ≡ digits
encode_lower-decoded digits e =
    let found = decodes digits e in
    ap encode_lower (decoded-ok digits found.0 found.1) ∙ found.2

pub IsBytes-decoded : (digits : List ℕ) → is_hex digits ≡ true → IsBytes (decoded digits)
IsBytes-decoded digits e =
    let found = decodes digits e in
    subst IsBytes (sym (decoded-ok digits found.0 found.1)) (decode_of-ok digits found.0 found.1).3

-- lower-case digits are decoded where there is memory
pub decoding_fails : (digits : List ℕ) (e : FromHexError) → is_hex digits ≡ true → (e ≡ OutOfMemory) ⊎ (decode_of digits ≡ Err e) → e ≡ OutOfMemory
decoding_fails digits e is (inl memory) = memory
decoding_fails digits e is (inr fault) = absurd (let q : Ok (decodes digits is).0 ≡ Err e = sym (decodes digits is).1 ∙ fault in cc)

lower_at : (k : ℕ) → k < 16 → is_lower_digit (slice_index lower_digits k) ≡ true
lower_at k small = rw (digit_of k small) (grind (arith, nat_tests))

digits_lower : (bytes : List ℕ) → IsBytes bytes → list_all is_lower_digit (encode_lower bytes) ≡ true
unfolding encode_with
digits_lower [] it = refl
digits_lower (byte ∷ bytes) it =
    let small : byte < 256 = it 0 in
    and_true _ _ (lower_at (byte / 16) (omega arith)) (and_true _ _ (lower_at (byte % 16) (omega arith)) (digits_lower bytes (λ i. it (suc i))))

-- what is written of bytes is lower-case digits
pub is_hex-encode_lower : (bytes : List ℕ) → IsBytes bytes → is_hex (encode_lower bytes) ≡ true
is_hex-encode_lower bytes it =
    let even : length (encode_lower bytes) % 2 ≡ 0 = rw (length-encode_with lower_digits bytes) (omega arith) in
    and_true _ _ (eq-eqb _ _ even) (digits_lower bytes it)
