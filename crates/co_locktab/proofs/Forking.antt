-- Where the bounds of a range part is on the path of each of its keys.
use Rattle.std.proofs.Common.{◌≡◌, T, ℕ, zero, suc, Bool, true, false, cond, not, ◌≤◌, ◌<◌, ◌+◌, ◌-◌, ◌*◌, ◌/◌, ◌^◌, List, [], ◌∷◌, length, take, if◌then◌else◌, refl, sym, ap, ◌∙◌, subst, true≢false, eqb→eq, eq-eqb, arith}
use Rattle.std.specs.Prelude.{◌==◌}
use Rattle.std.specs.List.{take_while, zip}
use Rattle.std.specs.Ordering.{nat_cmp, is_gt, ordering_then}
use Rattle.std.specs.declared.cmp.Ordering.{Ordering}
use Rattle.std.specs.declared.cmp.Ordering.TheVariants.{Less, Equal, Greater}
use Rattle.std.proofs.Math.Nat.{div-mul-le_self}
use Rattle.std.proofs.lemmas.Nat.{pow_pos}
use Rattle.std.proofs.lemmas.Nat.{le-div}
use Rattle.std.proofs.lemmas.Bool.Decides.{nat_tests}
use Rattle.std.specs.FinMap.{nat_cmp-IsAntisymmetric}
use Rattle.std.proofs.lemmas.List.Sums.{take_while-cons}
use Rattle.co_base.specs.Order.{key_cmp}
use Rattle.co_base.specs.Span.{Span, span_has}
use Rattle.co_locktab.proofs.Orders.{tie, number_itself}
use Rattle.co_locktab.proofs.Least.{left_true, right_true}
use Rattle.co_locktab.specs.Forks.{byte_at, common_length, one_block, middle_of, shared_height, padded, words, fork_behind, fork_of, IsOnPath}

-- the middle of a block is a byte
pub middle_fits : (h b : ℕ) → h < 8 → b < 256 → middle_of h b < 256
middle_fits zero b k l = omega arith
middle_fits (suc zero) b k l = omega arith
middle_fits (suc (suc zero)) b k l = omega arith
middle_fits (suc (suc (suc zero))) b k l = omega arith
middle_fits (suc (suc (suc (suc zero)))) b k l = omega arith
middle_fits (suc (suc (suc (suc (suc zero))))) b k l = omega arith
middle_fits (suc (suc (suc (suc (suc (suc zero)))))) b k l = omega arith
middle_fits (suc (suc (suc (suc (suc (suc (suc zero))))))) b k l = omega arith
middle_fits (suc (suc (suc (suc (suc (suc (suc (suc h)))))))) b k l = absurd (omega arith)

-- one step down
pub height_down : (n a b : ℕ) → 0 < n → one_block (n - 1) a b ≡ true → shared_height (n - 1) a b ≡ shared_height n a b
height_down zero a b k e = absurd (omega arith)
height_down (suc n) a b k e =
    let q : suc n - 1 ≡ n = omega arith in
    let f : one_block n a b ≡ true = subst (λ (m : ℕ). one_block m a b ≡ true) q e in
    ap (λ (m : ℕ). shared_height m a b) q ∙ sym (ap (λ (c : Bool). if c then shared_height n a b else suc n) f)

-- the block of the shared height has both bytes
pub shared_block : (n a b : ℕ) → one_block n a b ≡ true → one_block (shared_height n a b) a b ≡ true
shared_block zero a b e = e
shared_block (suc n) a b e = by (one_block n a b) refl (shared_block n a b)
  where
    by : (c : Bool) → one_block n a b ≡ c → (one_block n a b ≡ true → one_block (shared_height n a b) a b ≡ true) → one_block (if c then shared_height n a b else suc n) a b ≡ true
    by true f rest = rest f
    by false f rest = e

pub shared_within : (n a b : ℕ) → shared_height n a b ≤ n
shared_within zero a b = omega arith
shared_within (suc n) a b = by (one_block n a b) (shared_within n a b)
  where
    by : (c : Bool) → shared_height n a b ≤ n → (if c then shared_height n a b else suc n) ≤ suc n
    by true h = omega arith
    by false h = omega arith

-- bytes share the greatest block
pub bytes_share : (a b : ℕ) → a < 256 → b < 256 → one_block 7 a b ≡ true
bytes_share a b h k = eq-eqb (a / 128 / 2) (b / 128 / 2) (omega arith)

equal : (a b : ℕ) → (a == b) ≡ true → a ≡ b
equal a b e = eqb→eq a b (subst T (sym e) tt)

divided : (a b k : ℕ) → 0 < k → a ≤ b → a / k ≤ b / k
divided a b k h l = let q : a / k * k ≤ a = div-mul-le_self a k in le-div (a / k) b k h (omega arith)

-- a byte between two of one block is in it
pub between : (h a b c : ℕ) → a ≤ b → b ≤ c → one_block h a c ≡ true → a / 2 ^ h / 2 ≡ b / 2 ^ h / 2
between h a b c l k e =
    let f : a / 2 ^ h / 2 ≡ c / 2 ^ h / 2 = equal (a / 2 ^ h / 2) (c / 2 ^ h / 2) e in
    let m : a / 2 ^ h ≤ b / 2 ^ h = divided a b (2 ^ h) (pow_pos h) l in
    let n : b / 2 ^ h ≤ c / 2 ^ h = divided b c (2 ^ h) (pow_pos h) k in
    omega arith

pub same_middle : (h a b : ℕ) → a / 2 ^ h / 2 ≡ b / 2 ^ h / 2 → middle_of h a ≡ middle_of h b
same_middle h a b e = ap (λ q. (q * 2 + 1) * 2 ^ h) e

-- ---- a key between two bounds has the bytes that they share, and then a byte between theirs
pub record Between (lo hi key : List ℕ) (n : ℕ) : Type 0 where
  pub within : n ≤ length key
  pub shares : take n lo ≡ take n key
  pub from : byte_at lo n ≤ byte_at key n
  pub to : byte_at key n ≤ byte_at hi n

first_le : (a b : ℕ) (r : Ordering) → is_gt (ordering_then (nat_cmp a b) r) ≡ false → a ≤ b
first_le a b r e = by (nat_cmp a b) refl e
  where
    by : (o : Ordering) → nat_cmp a b ≡ o → is_gt (ordering_then o r) ≡ false → a ≤ b
    by Less f g = grind (arith, nat_tests)
    by Equal f g = let q : a ≡ b = nat_cmp-IsAntisymmetric a b f in omega arith
    by Greater f g = absurd (true≢false g)

rest_le : (a b : ℕ) (r : Ordering) → a ≡ b → is_gt (ordering_then (nat_cmp a b) r) ≡ false → is_gt r ≡ false
rest_le a b r s e =
    let q : nat_cmp a b ≡ Equal = ap (nat_cmp a) (sym s) ∙ tie (nat_cmp a a) (number_itself a) in
    ap (λ (o : Ordering). is_gt (ordering_then o r)) (sym q) ∙ e

both_lengths : {A : Type 0} (s : Bool) (x : A) (xs : List A) → length (cond s (x ∷ xs) []) ≡ cond s (suc (length xs)) 0
both_lengths true x xs = refl
both_lengths false x xs = refl

common_more : (a c : ℕ) (lo hi : List ℕ) → common_length (a ∷ lo) (c ∷ hi) ≡ cond (a == c) (suc (common_length lo hi)) 0
common_more a c lo hi =
    ap (λ (xs : List (ℕ × ℕ)). length xs) (take_while-cons (λ p. p.0 == p.1) (a, c) (zip lo hi)) ∙ both_lengths (a == c) (a, c) (take_while (λ p. p.0 == p.1) (zip lo hi))

pub lies_between : (lo hi key : List ℕ) → is_gt (key_cmp lo key) ≡ false → is_gt (key_cmp key hi) ≡ false → Between lo hi key (common_length lo hi)
lies_between [] [] [] h k = record { within = omega arith; shares = refl; from = omega arith; to = omega arith }
lies_between [] [] (b ∷ key) h k = absurd (true≢false k)
lies_between [] (c ∷ hi) [] h k = record { within = omega arith; shares = refl; from = omega arith; to = omega arith }
lies_between [] (c ∷ hi) (b ∷ key) h k = record { within = omega arith; shares = refl; from = omega arith; to = first_le b c (key_cmp key hi) k }
lies_between (a ∷ lo) [] [] h k = absurd (true≢false h)
lies_between (a ∷ lo) [] (b ∷ key) h k = absurd (true≢false k)
lies_between (a ∷ lo) (c ∷ hi) [] h k = absurd (true≢false h)
lies_between (a ∷ lo) (c ∷ hi) (b ∷ key) h k =
    subst (Between (a ∷ lo) (c ∷ hi) (b ∷ key)) (sym (common_more a c lo hi))
    (by (a == c) refl (first_le a b (key_cmp lo key) h) (first_le b c (key_cmp key hi) k) (λ e f. lies_between lo hi key (rest_le a b (key_cmp lo key) e h) (rest_le b c (key_cmp key hi) f k)))
  where
    by : (s : Bool) → (a == c) ≡ s → a ≤ b → b ≤ c → (a ≡ b → b ≡ c → Between lo hi key (common_length lo hi)) → Between (a ∷ lo) (c ∷ hi) (b ∷ key) (cond s (suc (common_length lo hi)) 0)
    by true e l m rest =
        let f : a ≡ c = equal a c e in
        let g : a ≡ b = omega arith in
        let r : Between lo hi key (common_length lo hi) = rest g (omega arith) in
        let w : common_length lo hi ≤ length key = r.within in
        record { within = omega arith; shares = λ i. g i ∷ r.shares i; from = r.from; to = r.to }
    by false e l m rest = record { within = omega arith; shares = refl; from = l; to = m }

not_true : (b : Bool) → not b ≡ true → b ≡ false
not_true true e = sym e
not_true false e = refl

on_path : (span : Span) (key : List ℕ) (n : ℕ) → Between span.lo span.hi key n → byte_at span.lo n < 256 → byte_at span.hi n < 256 → IsOnPath key (fork_behind n span)
on_path span key n b k l =
    let a : ℕ = byte_at span.lo n in
    let c : ℕ = byte_at span.hi n in
    let h : ℕ = shared_height 7 a c in
    let one : one_block h a c ≡ true = shared_block 7 a c (bytes_share a c k l) in
    let bound : h ≤ 7 = shared_within 7 a c in
    record {
      place = n;
      height = h;
      within = b.within;
      bound = omega arith;
      is = λ i. record {
        prefix = words (padded (b.shares i));
        middle = same_middle h a (byte_at key n) (between h a (byte_at key n) c b.from b.to one) i;
      };
    }

-- where the bounds part is on the path of each key of a range
pub fork_on_path : (span : Span) (key : List ℕ) → span_has span key ≡ true → byte_at span.lo (common_length span.lo span.hi) < 256 → byte_at span.hi (common_length span.lo span.hi) < 256 → IsOnPath key (fork_of span)
fork_on_path span key e k l =
    on_path span key (common_length span.lo span.hi)
    (lies_between span.lo span.hi key
    (not_true (is_gt (key_cmp span.lo key)) (left_true (not (is_gt (key_cmp span.lo key))) (not (is_gt (key_cmp key span.hi))) e))
    (not_true (is_gt (key_cmp key span.hi)) (right_true (not (is_gt (key_cmp span.lo key))) (not (is_gt (key_cmp key span.hi))) e)))
    k l
