-- The forks before all those behind the first bytes of a key ascend with the number of the bytes: words lie as their
-- bytes do.
use Rattle.std.proofs.Common.{◌≡◌, ◌⊎◌, inl, inr, ℕ, zero, suc, ◌<◌, ◌≤◌, ◌-◌, List, [], ◌∷◌, ◌++◌, length, take, drop, None, refl, sym, ap, ◌∙◌, subst, length-append, length-drop, length-take, arith}
use Rattle.std.specs.Prelude.{replicate, false}
use Rattle.std.specs.BTreeSet.{BTreeSet}
use Rattle.std.specs.Cmp.{nat_cmp_is}
use Rattle.std.specs.Ordering.{nat_cmp, is_gt, ordering_then}
use Rattle.std.specs.declared.cmp.Ordering.{Ordering}
use Rattle.std.specs.declared.cmp.Ordering.TheVariants.{Less, Equal, Greater}
use Rattle.std.specs.List.{All}
use Rattle.std.proofs.lemmas.Bool.{cases_order}
use Rattle.std.proofs.lemmas.List.{length-replicate, drop_all}
use Rattle.std.proofs.lemmas.List.Elements.{All-append, All-drop, All-take, All-replicate, All-weaker}
use Rattle.co_base.specs.Letters.{IsLetter, IsText}
use Rattle.co_base.proofs.Numbers.{AreBytes, next_word}
use Rattle.co_base.specs.Order.{key_cmp}
use Rattle.co_base.specs.Span.{Span}
use Rattle.co_locktab.specs.declared.fork.Fork.{Fork}
use Rattle.co_locktab.specs.declared.place.Place.{Place}
use Rattle.co_locktab.specs.Forks.{padded, word, words, fork_with}
use Rattle.co_locktab.specs.Places.{fork_cmp, IsFirstFrom}
use Rattle.co_locktab.proofs.Behind.{still_none}
use Rattle.co_locktab.proofs.Orders.{keys_total, keys_apart, ties-itself, tie}

-- the fork before all those behind the first bytes of a key
abbrev pub start_of : List ℕ → ℕ → Fork
start_of key place = fork_with (take place key) 0

same_bytes : (bytes : List ℕ) → is_gt (key_cmp bytes bytes) ≡ false
same_bytes bytes = ap is_gt (tie (key_cmp bytes bytes) (ties-itself keys_total keys_apart bytes))

abbrev filled : ℕ → List ℕ → List ℕ
filled most bytes = bytes ++ drop (length bytes) (replicate most 0)

then_same : (x : ℕ) (r : Ordering) → is_gt r ≡ false → is_gt (ordering_then (nat_cmp x x) r) ≡ false
then_same x r e = ap (λ (s : Ordering). is_gt (ordering_then s r)) (sym (nat_cmp_is x x Equal refl)) ∙ e

zero_first : (x : ℕ) (r : Ordering) → is_gt r ≡ false → is_gt (ordering_then (nat_cmp 0 x) r) ≡ false
zero_first x r e = by (cases_order 0 x)
  where
    by : (0 ≡ x) ⊎ ((0 < x) ⊎ (x < 0)) → is_gt (ordering_then (nat_cmp 0 x) r) ≡ false
    by (inl f) = ap (λ (s : Ordering). is_gt (ordering_then s r)) (sym (nat_cmp_is 0 x Equal f)) ∙ e
    by (inr (inl l)) = ap (λ (s : Ordering). is_gt (ordering_then s r)) (sym (nat_cmp_is 0 x Less l))
    by (inr (inr l)) = absurd (omega (arith, l))

none_left : (n : ℕ) → drop {A = ℕ} n (replicate 0 0) ≡ []
none_left zero = refl
none_left (suc n) = refl

no_zeros : (bytes : List ℕ) → bytes ++ drop (suc (length bytes)) (replicate 0 0) ≡ filled 0 bytes
no_zeros bytes = ap (λ zeros. bytes ++ zeros) (none_left (suc (length bytes)) ∙ sym (none_left (length bytes)))

-- one byte more in place of a zero
one_more : (most n : ℕ) (key : List ℕ) → is_gt (key_cmp (filled most (take n key)) (filled most (take (suc n) key))) ≡ false
one_more most zero [] = same_bytes (replicate most 0)
one_more zero zero (x ∷ key) = refl
one_more (suc most) zero (x ∷ key) = zero_first x (key_cmp (replicate most 0) (replicate most 0)) (same_bytes (replicate most 0))
one_more most (suc n) [] = same_bytes (replicate most 0)
one_more zero (suc n) (x ∷ key) =
    then_same x (key_cmp (take n key ++ drop (suc (length (take n key))) (replicate 0 0)) (take (suc n) key ++ drop (suc (length (take (suc n) key))) (replicate 0 0)))
    ((λ i. is_gt (key_cmp (no_zeros (take n key) i) (no_zeros (take (suc n) key) i))) ∙ one_more zero n key)
one_more (suc most) (suc n) (x ∷ key) = then_same x _ (one_more most n key)

-- ---- words lie as their bytes do
are_bytes : (xs : List ℕ) → All (λ b. b < 256) xs → AreBytes xs
are_bytes [] h k = omega arith
are_bytes (x ∷ xs) h zero = h 0 0 (omega arith)
are_bytes (x ∷ xs) h (suc k) = are_bytes xs (λ j d l. h (suc j) d (omega (arith, l))) k

as_words : (xs ys : List ℕ) → length xs ≡ 32 → length ys ≡ 32 → AreBytes xs → AreBytes ys → key_cmp xs ys ≡ key_cmp (words xs) (words ys)
as_words xs ys s r g h =
    let level : length xs ≡ length ys = s ∙ sym r in
    let next = next_word xs ys level g h in
    let end : key_cmp (drop 32 xs) (drop 32 ys) ≡ key_cmp [] [] = λ i. key_cmp (drop_all 32 xs (omega (arith, s)) i) (drop_all 32 ys (omega (arith, r)) i) in
    next 0
    ∙ ap (ordering_then (nat_cmp (word xs 0) (word ys 0))) (next 8
    ∙ ap (ordering_then (nat_cmp (word xs 8) (word ys 8))) (next 16
    ∙ ap (ordering_then (nat_cmp (word xs 16) (word ys 16))) (next 24
    ∙ ap (ordering_then (nat_cmp (word xs 24) (word ys 24))) end)))

padded_length : (xs : List ℕ) → length xs ≤ 32 → length (padded xs) ≡ 32
padded_length xs l = omega (arith, length-append xs (drop (length xs) (replicate 32 0)), length-drop {A = ℕ} (length xs) (replicate 32 0), length-replicate {A = ℕ} 32 0, l)

padded_bytes : (xs : List ℕ) → All (λ b. b < 256) xs → AreBytes (padded xs)
padded_bytes xs h = are_bytes (padded xs)
    (All-append (λ b. b < 256) xs (drop (length xs) (replicate 32 0)) h (All-drop (λ b. b < 256) (length xs) (replicate 32 0) (All-replicate (λ b. b < 256) 32 0 (omega arith))))

no_later : (r : Ordering) → is_gt r ≡ false → is_gt (ordering_then r (nat_cmp 0 0)) ≡ false
no_later Less e = refl
no_later Equal e = then_same 0 Equal refl
no_later Greater e = e

module _ (key : List ℕ) (text : IsText 32 key) where
  short : (n : ℕ) → length (take n key) ≤ 32
  short n = omega (arith, length-take n key, text.0.1)

  small : (n : ℕ) → All (λ b. b < 256) (take n key)
  small n = All-take (λ b. b < 256) n key (All-weaker IsLetter (λ b. b < 256) (λ b h. omega (arith, h.1)) key text.1)

  words_ascend : (n : ℕ) → is_gt (key_cmp (words (padded (take n key))) (words (padded (take (suc n) key)))) ≡ false
  words_ascend n =
      ap is_gt (sym (as_words (padded (take n key)) (padded (take (suc n) key)) (padded_length (take n key) (short n)) (padded_length (take (suc n) key) (short (suc n)))
      (padded_bytes (take n key) (small n)) (padded_bytes (take (suc n) key) (small (suc n)))))
      ∙ one_more 32 n key

  pub next_ascends : (n : ℕ) → is_gt (fork_cmp (start_of key n) (start_of key (suc n))) ≡ false
  next_ascends n = no_later (key_cmp (words (padded (take n key))) (words (padded (take (suc n) key)))) (words_ascend n)

  abbrev ascends : ℕ → ℕ → Type 0
  ascends m n = is_gt (fork_cmp (start_of key m) (start_of key n)) ≡ false

  pub starts_ascend : (n : ℕ) → is_gt (fork_cmp (start_of key (n - 1)) (start_of key n)) ≡ false
  starts_ascend zero = no_later (key_cmp (words (padded [])) (words (padded []))) (same_bytes (words (padded [])))
  starts_ascend (suc n) = let m : n ≡ suc n - 1 = omega arith in subst (λ (k : ℕ). ascends k (suc n)) m (next_ascends n)

  -- where no range stands from one of them on, none does from a later one on
  pub none_later : (set : BTreeSet (Place Span)) (m n : ℕ) → m ≤ n → IsFirstFrom set (start_of key m) None → IsFirstFrom set (start_of key n) None
  none_later set m zero l is = let e : m ≡ 0 = omega arith in subst (λ (k : ℕ). IsFirstFrom set (start_of key k) None) e is
  none_later set m (suc n) l is = by (cases_order m (suc n)) (λ k. none_later set m n k is)
    where
      by : (m ≡ suc n) ⊎ ((m < suc n) ⊎ (suc n < m)) → (m ≤ n → IsFirstFrom set (start_of key n) None) → IsFirstFrom set (start_of key (suc n)) None
      by (inl e) rest = subst (λ (k : ℕ). IsFirstFrom set (start_of key k) None) e is
      by (inr (inl k)) rest = still_none set (start_of key n) (start_of key (suc n)) (next_ascends n) (rest (omega (arith, k)))
      by (inr (inr k)) rest = absurd (omega (arith, k, l))
