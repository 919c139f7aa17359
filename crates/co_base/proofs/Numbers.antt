-- Bytes that are compared as numbers, and texts with zeros behind them.
use Rattle.std.proofs.Common.{◌≡◌, ℕ, ◌+◌, ◌*◌, ◌<◌, List, [], ◌∷◌, ◌++◌, take, drop, length, replicate, get_or, zero, suc, refl, sym, ap, ◌∙◌, ◌⊎◌, inl, inr, ◌≢◌, length-drop, length-take, length-take-le, subst, ◌-◌, arith}
use Rattle.std.specs.List.{All}
use Rattle.std.specs.Ordering.{nat_cmp, ordering_then}
use Rattle.std.specs.Cmp.{nat_cmp_is}
use Rattle.std.specs.Cmp.Lexicographic.{slice_cmp}
use Rattle.std.specs.Int.Digits.{number_from_digits_after, number_from_digits}
use Rattle.std.specs.declared.cmp.Ordering.{Ordering}
use Rattle.std.specs.declared.cmp.Ordering.TheVariants.{Less, Equal, Greater}
use Rattle.std.proofs.lemmas.Bool.{cases_order}
use Rattle.std.proofs.lemmas.List.{drop-drop, drop-replicate}
use Rattle.std.proofs.Math.Seq.{take-append_seam}
use Rattle.std.proofs.lemmas.Cmp.{nat_list_cmp_total, tied_itself}
use Rattle.co_base.specs.Letters.{IsLetter, IsText}
use Rattle.co_base.specs.Padded.{IsPadded}

abbrev pub AreBytes : List ℕ → Type 0
AreBytes bytes = (k : ℕ) → get_or bytes k 0 < 256

-- the number of more digits is greater behind a greater number
rises : (a b : ℕ) (us vs : List ℕ) → length us ≡ length vs → AreBytes us → a < b
    → number_from_digits_after 256 a us < number_from_digits_after 256 b vs
rises a b [] [] s h l = l
rises a b [] (v ∷ vs) s h l = absurd (omega (arith, s))
rises a b (u ∷ us) [] s h l = absurd (omega (arith, s))
rises a b (u ∷ us) (v ∷ vs) s h l = rises (a * 256 + u) (b * 256 + v) us vs (omega (arith, s)) (λ k. h (suc k)) (omega (arith, h 0, l))

-- as many bytes behind one number lie as their numbers do
behind : (a : ℕ) (us vs : List ℕ) → length us ≡ length vs → AreBytes us → AreBytes vs
    → nat_cmp (number_from_digits_after 256 a us) (number_from_digits_after 256 a vs) ≡ slice_cmp nat_cmp us vs
behind a [] [] s g h = sym (nat_cmp_is a a Equal refl)
behind a [] (v ∷ vs) s g h = absurd (omega (arith, s))
behind a (u ∷ us) [] s g h = absurd (omega (arith, s))
behind a (u ∷ us) (v ∷ vs) s g h = by (behind (a * 256 + u) us vs (omega (arith, s)) (λ k. g (suc k)) (λ k. h (suc k))) (cases_order u v)
  where
    by : nat_cmp (number_from_digits_after 256 (a * 256 + u) us) (number_from_digits_after 256 (a * 256 + u) vs) ≡ slice_cmp nat_cmp us vs → (u ≡ v) ⊎ ((u < v) ⊎ (v < u))
        → nat_cmp (number_from_digits_after 256 a (u ∷ us)) (number_from_digits_after 256 a (v ∷ vs)) ≡ slice_cmp nat_cmp (u ∷ us) (v ∷ vs)
    by rest (inl e) =
        ap (λ w. nat_cmp (number_from_digits_after 256 (a * 256 + u) us) (number_from_digits_after 256 (a * 256 + w) vs)) (sym e)
        ∙ rest
        ∙ ap (λ r. ordering_then r (slice_cmp nat_cmp us vs)) (nat_cmp_is u v Equal e)
    by rest (inr (inl l)) =
        sym (nat_cmp_is _ _ Less (rises (a * 256 + u) (a * 256 + v) us vs (omega (arith, s)) (λ k. g (suc k)) (omega (arith, l))))
        ∙ ap (λ r. ordering_then r (slice_cmp nat_cmp us vs)) (nat_cmp_is u v Less l)
    by rest (inr (inr l)) =
        sym (nat_cmp_is _ _ Greater (rises (a * 256 + v) (a * 256 + u) vs us (omega (arith, s)) (λ k. h (suc k)) (omega (arith, l))))
        ∙ ap (λ r. ordering_then r (slice_cmp nat_cmp us vs)) (nat_cmp_is u v Greater l)

-- as many bytes lie as the numbers that they spell
pub as_numbers : (us vs : List ℕ) → length us ≡ length vs → AreBytes us → AreBytes vs
    → nat_cmp (number_from_digits 256 us) (number_from_digits 256 vs) ≡ slice_cmp nat_cmp us vs
as_numbers = behind 0

then_again : (p q r : Ordering) → ordering_then (ordering_then p q) r ≡ ordering_then p (ordering_then q r)
then_again Less q r = refl
then_again Equal q r = refl
then_again Greater q r = refl

-- the first n decide, and else what is behind them
pub cut : (n : ℕ) (us vs : List ℕ) → length us ≡ length vs
    → slice_cmp nat_cmp us vs ≡ ordering_then (slice_cmp nat_cmp (take n us) (take n vs)) (slice_cmp nat_cmp (drop n us) (drop n vs))
cut zero us vs s = refl
cut (suc n) [] [] s = refl
cut (suc n) [] (v ∷ vs) s = absurd (omega (arith, s))
cut (suc n) (u ∷ us) [] s = absurd (omega (arith, s))
cut (suc n) (u ∷ us) (v ∷ vs) s =
    ap (ordering_then (nat_cmp u v)) (cut n us vs (omega (arith, s))) ∙ sym (then_again (nat_cmp u v) _ _)

-- texts lie as they do with zeros behind them
pub as_padded : (xs ys : List ℕ) (m n : ℕ) → length xs + m ≡ length ys + n → All IsLetter xs → All IsLetter ys
    → slice_cmp nat_cmp (xs ++ replicate m 0) (ys ++ replicate n 0) ≡ slice_cmp nat_cmp xs ys
as_padded [] [] m n s g h = let e : m ≡ n = omega (arith, s) in ap (λ k. slice_cmp nat_cmp (replicate k 0) (replicate n 0)) e ∙ tied_itself nat_list_cmp_total (replicate n 0)
as_padded [] (y ∷ ys) zero n s g h = absurd (omega (arith, s))
as_padded [] (y ∷ ys) (suc m) n s g h =
    ap (λ r. ordering_then r (slice_cmp nat_cmp (replicate m 0) (ys ++ replicate n 0))) (sym (nat_cmp_is 0 y Less (omega (arith, (h 0 0 (omega arith)).0))))
as_padded (x ∷ xs) [] m zero s g h = absurd (omega (arith, s))
as_padded (x ∷ xs) [] m (suc n) s g h =
    ap (λ r. ordering_then r (slice_cmp nat_cmp (xs ++ replicate m 0) (replicate n 0))) (sym (nat_cmp_is x 0 Greater (omega (arith, (g 0 0 (omega arith)).0))))
as_padded (x ∷ xs) (y ∷ ys) m n s g h =
    ap (ordering_then (nat_cmp x y))
    (as_padded xs ys m n (omega (arith, s)) (λ k d l. g (suc k) d (omega (arith, l))) (λ k d l. h (suc k) d (omega (arith, l))))

bytes_before : (n : ℕ) (xs : List ℕ) → AreBytes xs → AreBytes (take n xs)
bytes_before zero xs h k = omega arith
bytes_before (suc n) [] h k = omega arith
bytes_before (suc n) (x ∷ xs) h zero = h 0
bytes_before (suc n) (x ∷ xs) h (suc k) = bytes_before n xs (λ j. h (suc j)) k

bytes_from : (n : ℕ) (xs : List ℕ) → AreBytes xs → AreBytes (drop n xs)
bytes_from zero xs h = h
bytes_from (suc n) [] h = λ k. omega arith
bytes_from (suc n) (x ∷ xs) h = bytes_from n xs (λ k. h (suc k))

pub apart : (x y : ℕ) (r : Ordering) → x ≢ y → ordering_then (nat_cmp x y) r ≡ nat_cmp x y
apart x y r n = by (cases_order x y)
  where
    by : (x ≡ y) ⊎ ((x < y) ⊎ (y < x)) → ordering_then (nat_cmp x y) r ≡ nat_cmp x y
    by (inl e) = absurd (n e)
    by (inr (inl l)) = let e : Less ≡ nat_cmp x y = nat_cmp_is x y Less l in rw (← e) refl
    by (inr (inr l)) = let e : Greater ≡ nat_cmp x y = nat_cmp_is x y Greater l in rw (← e) refl

pub alike : (x y : ℕ) (r : Ordering) → x ≡ y → ordering_then (nat_cmp x y) r ≡ r
alike x y r s = ap (λ o. ordering_then o r) (sym (nat_cmp_is x y Equal s))

module _ (xs ys : List ℕ) (s : length xs ≡ length ys) (g : AreBytes xs) (h : AreBytes ys) where
  -- from a place on, the next eight bytes decide as numbers, and else what is behind them
  pub next_word : (at : ℕ) → slice_cmp nat_cmp (drop at xs) (drop at ys)
      ≡ ordering_then (nat_cmp (number_from_digits 256 (take 8 (drop at xs))) (number_from_digits 256 (take 8 (drop at ys)))) (slice_cmp nat_cmp (drop (at + 8) xs) (drop (at + 8) ys))
  next_word at =
      let level : length (drop at xs) ≡ length (drop at ys) = omega (arith, length-drop at xs, length-drop at ys, s) in
      let short : length (take 8 (drop at xs)) ≡ length (take 8 (drop at ys)) = omega (arith, length-take 8 (drop at xs), length-take 8 (drop at ys), level) in
      cut 8 (drop at xs) (drop at ys) level
      ∙ ap (λ o. ordering_then o (slice_cmp nat_cmp (drop 8 (drop at xs)) (drop 8 (drop at ys)))) (sym (as_numbers _ _ short (bytes_before 8 _ (bytes_from at xs g)) (bytes_before 8 _ (bytes_from at ys h))))
      ∙ (λ i. ordering_then (nat_cmp (number_from_digits 256 (take 8 (drop at xs))) (number_from_digits 256 (take 8 (drop at ys)))) (slice_cmp nat_cmp (drop-drop 8 at xs i) (drop-drop 8 at ys i)))

-- a text before what is left of as many zeros
pub text_padded : (text front : List ℕ) → front ≡ text → IsText 32 text
    → let bytes = front ++ drop (length text) (replicate 32 0) in IsText 32 (take (length text) bytes) × IsPadded 32 (length text) bytes
text_padded text front e t =
    let zeros : drop (length text) (replicate 32 0) ≡ replicate (32 - length text) 0 = drop-replicate (length text) 32 0 in
    let same : take (length text) (front ++ drop (length text) (replicate 32 0)) ≡ text =
    ap (λ l. take (length text) (l ++ drop (length text) (replicate 32 0))) e ∙ take-append_seam text _ in
    (subst (IsText 32) (sym same) t, (t.0.1, (λ i. e i ++ zeros i) ∙ (λ i. (sym same) i ++ replicate (32 - length text) 0)))

-- two padded texts lie as the texts
pub padded_alike : (m n : ℕ) (us vs : List ℕ) → IsText 32 (take m us) → IsPadded 32 m us → IsText 32 (take n vs) → IsPadded 32 n vs → length us ≡ 32 → length vs ≡ 32
    → slice_cmp nat_cmp us vs ≡ slice_cmp nat_cmp (take m us) (take n vs)
padded_alike m n us vs f p g q a b =
    (λ i. slice_cmp nat_cmp (p.1 i) (q.1 i))
    ∙ as_padded (take m us) (take n vs) (32 - m) (32 - n) (omega (arith, length-take-le m us (omega (arith, p.0, a)), length-take-le n vs (omega (arith, q.0, b)), p.0, q.0)) f.1 g.1
