-- Readers and the texts that they read: what is read was spelled so, and what is spelled is read again.
use Rattle.std.proofs.Common.{◌≡◌, ℕ, zero, suc, ◌+◌, ◌^◌, ◌<◌, ◌≤◌, Bool, true, false, cond, ltb, leb, List, [], ◌∷◌, ◌++◌, length, get_or, take, drop, Option, Some, None, Result, Ok, Err, refl, sym, ap, subst, ◌∙◌, append_assoc, arith, inl, inr}
use Rattle.std.specs.Prelude.{◌&&◌}
use Rattle.std.specs.List.{flat_map, AllByRecursion}
use Rattle.std.specs.Int.{Width, w16, w32, byte_len, from_be_bytes, to_be_bytes}
use Rattle.std.specs.declared.cmp.Ordering.{Ordering}
use Rattle.std.proofs.lemmas.Bool.{cases_lt, ltb-false, le-ltb, leb-true, le-leb}
use Rattle.std.proofs.lemmas.List.{take_at, drop_at, take-append-drop, length-append, length-take, get_or-drop, get_or-take, get_or_past}
use Rattle.std.proofs.lemmas.Nat.{be_bytes_2, be_bytes_4, from_be_bytes-to_be_bytes_2, from_be_bytes-to_be_bytes_4}
use Rattle.co_base.specs.Letters.{IsLetter}
use Rattle.co_record.specs.declared.miss.Miss.{Miss}
use Rattle.co_record.specs.declared.miss.Miss.TheVariants.{Short, Outside}
use Rattle.co_record.specs.Reading.{◌>>=◌, Reader, then_at, as_at, where_at, counted_at, steps, byte_at, number_at, within, byte_within, number_within, past_letter, letters_at, follows, next_at, elements, items_end, items_at}

abbrev pub IsBytes : List ℕ → Type 0
IsBytes bytes = (i : ℕ) → get_or bytes i 0 < 256

pub IsBytes-drop : (n : ℕ) (bytes : List ℕ) → IsBytes bytes → IsBytes (drop n bytes)
IsBytes-drop n bytes h i = rw get_or-drop (h (n + i))

IsBytes-take : (n : ℕ) (bytes : List ℕ) → IsBytes bytes → IsBytes (take n bytes)
IsBytes-take n bytes h i =
    elim (cases_lt i n) [
      | inl lt ↦ rw (get_or-take n bytes i 0 lt) (h i)
      | inr le ↦ rw (get_or_past (take n bytes) i 0 (omega (arith, length-take n bytes))) (omega arith)
    ]

pub IsBytes-rest : (b : ℕ) (bytes : List ℕ) → IsBytes (b ∷ bytes) → IsBytes bytes
IsBytes-rest b bytes h i = h (suc i)

-- the value of a step that did not fail
pub bind_ok : {A B : Type 0} (r : Result A Miss) (f : A → Result B Miss) (y : B) → (r >>= f) ≡ Ok y → (x : A) × (r ≡ Ok x) × (f x ≡ Ok y)
bind_ok (Ok x) f y e = (x, refl, e)
bind_ok (Err d) f y e = absurd cc

-- a test that did not fail
pub guard_ok : {A : Type 0} (b : Bool) (d : Miss) (x y : A) → cond b (Ok x) (Err d) ≡ Ok y → (b ≡ true) × (x ≡ y)
guard_ok true d x y e = (refl, cc)
guard_ok false d x y e = absurd cc

pub not_short : {A : Type 0} (b : Bool) (d : Miss) (x y : A) → cond b (Err d) (Ok x) ≡ Ok y → (b ≡ false) × (x ≡ y)
not_short true d x y e = absurd cc
not_short false d x y e = (refl, cc)

abbrev done : {A : Type 0} → A → Result A Miss
done x = Ok x

pub ok_is : {A : Type 0} (x y : A) → done x ≡ done y → x ≡ y
ok_is x y e = cc

-- what a reader took from the front
pub record Takes (bytes text rest : List ℕ) : Type 0 where
  pub parts : bytes ≡ text ++ rest
  pub rest_fits : IsBytes rest

pub Takes-then : (a x b y c : List ℕ) → Takes a x b → Takes b y c → Takes a (x ++ y) c
Takes-then a x b y c p q = record { parts = p.parts ∙ ap (λ (t : List ℕ). x ++ t) q.parts ∙ sym (append_assoc x y c); rest_fits = q.rest_fits }

-- A reader and the texts of what it reads: what is read is spelled so and is one of those that fit, and
-- each of these is read from its text, whatever follows.
pub record IsCodec {A : Type 0} (read : Reader A) (text : A → List ℕ) (Fits : A → Type 0) : Type 0 where
  pub takes : (bytes : List ℕ) (x : A) (rest : List ℕ) → IsBytes bytes → read bytes ≡ Ok (x, rest) → Takes bytes (text x) rest × Fits x
  pub again : (x : A) (rest : List ℕ) → Fits x → read (text x ++ rest) ≡ Ok (x, rest)

-- ---- one field and then another

pub codec-then : {A B : Type 0} (a : Reader A) (b : Reader B) (ta : A → List ℕ) (tb : B → List ℕ) (Fa : A → Type 0) (Fb : B → Type 0) → IsCodec a ta Fa → IsCodec b tb Fb
    → IsCodec (then_at a b) (λ p. ta p.0 ++ tb p.1) (λ p. Fa p.0 × Fb p.1)
codec-then {A} {B} a b ta tb Fa Fb ca cb = record {
  takes = λ bytes x rest fits e.
      let p = bind_ok (a bytes) (λ u. b u.1 >>= λ v. Ok ((u.0, v.0), v.1)) (x, rest) e in
      let q = bind_ok (b p.0.1) (λ v. Ok ((p.0.0, v.0), v.1)) (x, rest) p.2 in
      let t = ca.takes bytes p.0.0 p.0.1 fits p.1 in
      let u = cb.takes p.0.1 q.0.0 q.0.1 t.0.rest_fits q.1 in
      let made : (A × B) × List ℕ = ((p.0.0, q.0.0), q.0.1) in
      subst (λ (y : (A × B) × List ℕ). Takes bytes (ta y.0.0 ++ tb y.0.1) y.1 × (Fa y.0.0 × Fb y.0.1)) (ok_is made (x, rest) q.2) (Takes-then bytes (ta p.0.0) p.0.1 (tb q.0.0) q.0.1 t.0 u.0, (t.1, u.1));
  again = λ x rest fits.
      let one : a (ta x.0 ++ tb x.1 ++ rest) ≡ Ok (x.0, tb x.1 ++ rest) = ap a (append_assoc (ta x.0) (tb x.1) rest) ∙ ca.again x.0 (tb x.1 ++ rest) fits.0 in
      ap (λ (r : Result (A × List ℕ) Miss). r >>= λ u. b u.1 >>= λ v. Ok ((u.0, v.0), v.1)) one
      ∙ ap (λ (r : Result (B × List ℕ) Miss). r >>= λ v. Ok ((x.0, v.0), v.1)) (cb.again x.1 rest fits.1);
}

-- what is read, as something else
pub as_takes : {A B : Type 0} (f : A → B) (a : Reader A) (ta : A → List ℕ) (Fa : A → Type 0) → IsCodec a ta Fa → (bytes : List ℕ) (y : B) (rest : List ℕ) → IsBytes bytes → as_at f a bytes ≡ Ok (y, rest)
    → (x : A) × (f x ≡ y) × Takes bytes (ta x) rest × Fa x
as_takes {A} {B} f a ta Fa ca bytes y rest fits e =
    let p = bind_ok (a bytes) (λ u. Ok (f u.0, u.1)) (y, rest) e in
    let t = ca.takes bytes p.0.0 p.0.1 fits p.1 in
    let made : B × List ℕ = (f p.0.0, p.0.1) in
    let same = ok_is made (y, rest) p.2 in
    (p.0.0, ap (λ (z : B × List ℕ). z.0) same, subst (λ (r : List ℕ). Takes bytes (ta p.0.0) r) (ap (λ (z : B × List ℕ). z.1) same) t.0, t.1)

pub as_again : {A B : Type 0} (f : A → B) (a : Reader A) (ta : A → List ℕ) (Fa : A → Type 0) → IsCodec a ta Fa → (x : A) (rest : List ℕ) → Fa x → as_at f a (ta x ++ rest) ≡ Ok (f x, rest)
as_again {A} {B} f a ta Fa ca x rest fits = ap (λ (r : Result (A × List ℕ) Miss). r >>= λ u. Ok (f u.0, u.1)) (ca.again x rest fits)

pub codec-as : {A B : Type 0} (f : A → B) (g : B → A) (a : Reader A) (ta : A → List ℕ) (Fa : A → Type 0) → ((x : A) → Fa x → g (f x) ≡ x) → ((y : B) → Fa (g y) → f (g y) ≡ y) → IsCodec a ta Fa
    → IsCodec (as_at f a) (λ y. ta (g y)) (λ y. Fa (g y))
codec-as {A} {B} f g a ta Fa there back ca = record {
  takes = λ bytes y rest fits e.
      let t = as_takes f a ta Fa ca bytes y rest fits e in
      let same : g y ≡ t.0 = ap g (sym t.1) ∙ there t.0 t.3 in
      subst (λ (x : A). Takes bytes (ta x) rest × Fa x) (sym same) (t.2, t.3);
  again = λ y rest fits. as_again f a ta Fa ca (g y) rest fits ∙ ap (λ (z : B). done (z, rest)) (back y fits);
}

-- a field that a test admits
pub codec-where : {A : Type 0} (test : A → Bool) (a : Reader A) (ta : A → List ℕ) (Fa : A → Type 0) → IsCodec a ta Fa → IsCodec (where_at test a) ta (λ x. Fa x × (test x ≡ true))
codec-where {A} test a ta Fa ca = record {
  takes = λ bytes x rest fits e.
      let p = bind_ok (a bytes) (λ u. cond (test u.0) (Ok u) (Err (Outside (length bytes)))) (x, rest) e in
      let g = guard_ok (test p.0.0) (Outside (length bytes)) p.0 (x, rest) p.2 in
      let t = ca.takes bytes p.0.0 p.0.1 fits p.1 in
      subst (λ (y : A × List ℕ). Takes bytes (ta y.0) y.1 × (Fa y.0 × (test y.0 ≡ true))) g.1 (t.0, (t.1, g.0));
  again = λ x rest fits.
      ap (λ (r : Result (A × List ℕ) Miss). r >>= λ u. cond (test u.0) (Ok u) (Err (Outside (length (ta x ++ rest))))) (ca.again x rest fits.0)
      ∙ ap (λ (b : Bool). cond b (done (x, rest)) (Err (Outside (length (ta x ++ rest))))) fits.1;
}

-- other words for what fits
pub codec-fits : {A : Type 0} (a : Reader A) (t s : A → List ℕ) (F G : A → Type 0) → ((x : A) → t x ≡ s x) → ((x : A) → F x → G x) → ((x : A) → G x → F x) → IsCodec a t F → IsCodec a s G
codec-fits {A} a t s F G same to from c = record {
  takes = λ bytes x rest fits e. let p = c.takes bytes x rest fits e in (subst (λ (w : List ℕ). Takes bytes w rest) (same x) p.0, to x p.1);
  again = λ x rest fits. ap (λ (w : List ℕ). a (w ++ rest)) (sym (same x)) ∙ c.again x rest (from x fits);
}

-- a count, and then as many as it says
pub codec-counted : {A : Type 0} (count : Reader ℕ) (body : ℕ → Reader (List A)) (tc : ℕ → List ℕ) (tb : List A → List ℕ) (Fc : ℕ → Type 0) (Fb : List A → Type 0)
    → IsCodec count tc Fc → ((n : ℕ) → IsCodec (body n) tb (λ xs. (length xs ≡ n) × Fb xs)) → IsCodec (counted_at count body) (λ xs. tc (length xs) ++ tb xs) (λ xs. Fc (length xs) × Fb xs)
codec-counted {A} count body tc tb Fc Fb cc' cb = record {
  takes = λ bytes xs rest fits e.
      let p = bind_ok (count bytes) (λ n. body n.0 n.1) (xs, rest) e in
      let t = cc'.takes bytes p.0.0 p.0.1 fits p.1 in
      let u = (cb p.0.0).takes p.0.1 xs rest t.0.rest_fits p.2 in
      let both = Takes-then bytes (tc p.0.0) p.0.1 (tb xs) rest t.0 u.0 in
      (subst (λ (k : ℕ). Takes bytes (tc k ++ tb xs) rest) (sym u.1.0) both, (subst Fc (sym u.1.0) t.1, u.1.1));
  again = λ xs rest fits.
      let one : count (tc (length xs) ++ tb xs ++ rest) ≡ Ok (length xs, tb xs ++ rest) = ap count (append_assoc (tc (length xs)) (tb xs) rest) ∙ cc'.again (length xs) (tb xs ++ rest) fits.0 in
      ap (λ (r : Result (ℕ × List ℕ) Miss). r >>= λ n. body n.0 n.1) one ∙ (cb (length xs)).again xs rest (refl, fits.1);
}

-- ---- numbers

abbrev pub one_byte : ℕ → List ℕ
one_byte n = n ∷ []

pub codec-byte : IsCodec byte_at one_byte (λ n. n < 256)
codec-byte = record {
  takes = λ bytes n rest fits e. byte_takes bytes n rest fits e;
  again = λ n rest fits. refl;
}
  where
    byte_takes : (bytes : List ℕ) (n : ℕ) (rest : List ℕ) → IsBytes bytes → byte_at bytes ≡ Ok (n, rest) → Takes bytes (one_byte n) rest × (n < 256)
    byte_takes [] n rest fits e = absurd cc
    byte_takes (b ∷ bs) n rest fits e = subst (λ (x : ℕ × List ℕ). Takes (b ∷ bs) (one_byte x.0) x.1 × (x.0 < 256)) (ok_is (b, bs) (n, rest) e) (record { parts = refl; rest_fits = IsBytes-rest b bs fits }, fits 0)

pub record IsWide (w : Width) (limit : ℕ) : Type 0 where
  pub len : (n : ℕ) → length (to_be_bytes w n) ≡ byte_len w
  pub back : (bytes : List ℕ) → length bytes ≡ byte_len w → IsBytes bytes → to_be_bytes w (from_be_bytes w bytes) ≡ bytes
  pub again : (n : ℕ) → n < limit → from_be_bytes w (to_be_bytes w n) ≡ n
  pub below : (bytes : List ℕ) → IsBytes bytes → from_be_bytes w bytes < limit

pub wide16 : IsWide w16 (2 ^ 16)
wide16 = record {
  len = λ n. refl;
  back = λ bytes len fits. be_bytes_2 bytes _ len fits refl;
  again = λ n lt. from_be_bytes-to_be_bytes_2 n lt;
  below = λ bytes fits. omega (arith, fits 0, fits 1);
}

pub wide32 : IsWide w32 (2 ^ 32)
wide32 = record {
  len = λ n. refl;
  back = λ bytes len fits. be_bytes_4 bytes _ len fits refl;
  again = λ n lt. from_be_bytes-to_be_bytes_4 n lt;
  below = λ bytes fits. omega (arith, fits 0, fits 1, fits 2, fits 3);
}

pub codec-number : (w : Width) (limit : ℕ) → IsWide w limit → IsCodec (number_at w) (to_be_bytes w) (λ n. n < limit)
codec-number w limit wide = record { takes = number_takes; again = number_again }
  where
    number_takes : (bytes : List ℕ) (n : ℕ) (rest : List ℕ) → IsBytes bytes → number_at w bytes ≡ Ok (n, rest) → Takes bytes (to_be_bytes w n) rest × (n < limit)
    number_takes bytes n rest fits e =
        let g = not_short (ltb (length bytes) (byte_len w)) Short (from_be_bytes w (take (byte_len w) bytes), drop (byte_len w) bytes) (n, rest) e in
        let long : byte_len w ≤ length bytes = ltb-false _ _ g.0 in
        let n-is : from_be_bytes w (take (byte_len w) bytes) ≡ n = ap (λ (p : ℕ × List ℕ). p.0) g.1 in
        let rest-is : drop (byte_len w) bytes ≡ rest = ap (λ (p : ℕ × List ℕ). p.1) g.1 in
        let front : to_be_bytes w n ≡ take (byte_len w) bytes = rw (← n-is) (wide.back (take (byte_len w) bytes) (omega (arith, length-take (byte_len w) bytes)) (IsBytes-take (byte_len w) bytes fits)) in
        (record { parts = rw (front, ← rest-is) (sym (take-append-drop (byte_len w) bytes)); rest_fits = rw (← rest-is) (IsBytes-drop (byte_len w) bytes fits) }, rw (← n-is) (wide.below (take (byte_len w) bytes) (IsBytes-take (byte_len w) bytes fits)))

    number_again : (n : ℕ) (rest : List ℕ) → n < limit → number_at w (to_be_bytes w n ++ rest) ≡ Ok (n, rest)
    number_again n rest lt =
        let len = wide.len n in
        let long : ltb (length (to_be_bytes w n ++ rest)) (byte_len w) ≡ false = le-ltb _ _ (omega (arith, length-append (to_be_bytes w n) rest)) in
        rw (long, take_at (to_be_bytes w n) rest (byte_len w) len, drop_at (to_be_bytes w n) rest (byte_len w) len, wide.again n lt) refl

both_true : (a b : Bool) → (a && b) ≡ true → (a ≡ true) × (b ≡ true)
both_true true b e = (refl, e)
both_true false b e = absurd cc

true_both : (a b : Bool) → a ≡ true → b ≡ true → (a && b) ≡ true
true_both true b p q = q
true_both false b p q = absurd cc

pub within_is : (low most n : ℕ) → within low most n ≡ true → (low ≤ n) × (n ≤ most)
within_is low most n e = let p = both_true (leb low n) (leb n most) e in (leb-true low n p.0, leb-true n most p.1)

pub is_within : (low most n : ℕ) → low ≤ n → n ≤ most → within low most n ≡ true
is_within low most n a b = true_both (leb low n) (leb n most) (le-leb low n a) (le-leb n most b)

pub codec-byte_within : (low most : ℕ) → most < 256 → IsCodec (byte_within low most) one_byte (λ n. (low ≤ n) × (n ≤ most))
codec-byte_within low most small = codec-fits (byte_within low most) one_byte one_byte (λ n. (n < 256) × (within low most n ≡ true)) (λ n. (low ≤ n) × (n ≤ most))
    (λ n. refl) (λ n h. within_is low most n h.1) (λ n h. (omega (arith, h.1, small), is_within low most n h.0 h.1))
    (codec-where (within low most) byte_at one_byte (λ n. n < 256) codec-byte)

pub codec-number_within : (w : Width) (limit low most : ℕ) → IsWide w limit → most < limit → IsCodec (number_within w low most) (to_be_bytes w) (λ n. (low ≤ n) × (n ≤ most))
codec-number_within w limit low most wide small = codec-fits (number_within w low most) (to_be_bytes w) (to_be_bytes w) (λ n. (n < limit) × (within low most n ≡ true)) (λ n. (low ≤ n) × (n ≤ most))
    (λ n. refl) (λ n h. within_is low most n h.1) (λ n h. (omega (arith, h.1, small), is_within low most n h.0 h.1))
    (codec-where (within low most) (number_at w) (to_be_bytes w) (λ n. n < limit) (codec-number w limit wide))

-- ---- letters

-- the first letter of a text, and what stands behind it
letter_first : (bytes rest : List ℕ) → past_letter bytes ≡ Ok rest → (b : ℕ) × (bytes ≡ b ∷ rest) × IsLetter b
letter_first [] rest e = absurd cc
letter_first (b ∷ bs) rest e =
    let p = bind_ok (byte_within 33 126 (b ∷ bs)) (λ x. done x.1) rest e in
    let g = guard_ok (within 33 126 b) (Outside (length (b ∷ bs))) (b, bs) p.0 p.1 in
    (b, ap (λ (t : List ℕ). b ∷ t) (ap (λ (x : ℕ × List ℕ). x.1) g.1 ∙ ok_is p.0.1 rest p.2), within_is 33 126 b g.0)

letters_take : (n : ℕ) (bytes rest : List ℕ) → IsBytes bytes → steps past_letter n bytes ≡ Ok rest → (n ≤ length bytes) × Takes bytes (take n bytes) rest × (length (take n bytes) ≡ n) × AllByRecursion IsLetter (take n bytes)
unfolding steps
letters_take zero bytes rest fits e =
    (omega arith, record { parts = ok_is bytes rest e; rest_fits = subst IsBytes (ok_is bytes rest e) fits }, refl, tt)
letters_take (suc n) bytes rest fits e =
    let p = bind_ok (past_letter bytes) (steps past_letter n) rest e in
    let first = letter_first bytes p.0 p.1 in
    let more = letters_take n p.0 rest (IsBytes-rest first.0 p.0 (subst IsBytes first.1 fits)) p.2 in
    subst (λ (t : List ℕ). (suc n ≤ length t) × Takes t (take (suc n) t) rest × (length (take (suc n) t) ≡ suc n) × AllByRecursion IsLetter (take (suc n) t)) (sym first.1)
    (omega (arith, more.0), record { parts = ap (λ (t : List ℕ). first.0 ∷ t) more.1.parts; rest_fits = more.1.rest_fits }, ap suc more.2, (first.2, more.3))

letters_far : (n : ℕ) (bytes rest : List ℕ) → steps past_letter n bytes ≡ Ok rest → n ≤ length bytes
unfolding steps
letters_far zero bytes rest e = omega arith
letters_far (suc n) bytes rest e =
    let p = bind_ok (past_letter bytes) (steps past_letter n) rest e in
    let first = letter_first bytes p.0 p.1 in
    omega (arith, letters_far n p.0 rest p.2, ap length first.1)

pub letters_long : (n : ℕ) (bytes rest : List ℕ) → steps past_letter n bytes ≡ Ok rest → n ≤ length bytes
letters_long = letters_far

letters_again : (xs rest : List ℕ) → AllByRecursion IsLetter xs → steps past_letter (length xs) (xs ++ rest) ≡ Ok rest
unfolding steps
letters_again [] rest all = refl
letters_again (x ∷ xs) rest all =
    let got : ℕ × List ℕ = (x, xs ++ rest) in
    let tested : Bool → Result (ℕ × List ℕ) Miss = λ b. cond b (Ok got) (Err (Outside (suc (length (xs ++ rest))))) in
    ap (λ (b : Bool). (tested b >>= λ y. done y.1) >>= steps past_letter (length xs)) (is_within 33 126 x all.0.0 all.0.1)
    ∙ letters_again xs rest all.1

pub codec-letters : (n : ℕ) → IsCodec (letters_at n) (λ xs. xs) (λ xs. (length xs ≡ n) × AllByRecursion IsLetter xs)
codec-letters n = record {
  takes = λ bytes xs rest fits e.
      let p = bind_ok (steps past_letter n bytes) (λ r. done (take n bytes, r)) (xs, rest) e in
      let t = letters_take n bytes p.0 fits p.1 in
      subst (λ (x : List ℕ × List ℕ). Takes bytes x.0 x.1 × ((length x.0 ≡ n) × AllByRecursion IsLetter x.0)) (ok_is (take n bytes, p.0) (xs, rest) p.2) (t.1, (t.2, t.3));
  again = λ xs rest fits.
      ap (λ (r : Result (List ℕ) Miss). r >>= λ y. done (take n (xs ++ rest), y)) (ap (λ (k : ℕ). steps past_letter k (xs ++ rest)) (sym fits.0) ∙ letters_again xs rest fits.1)
      ∙ ap (λ (t : List ℕ). done (t, rest)) (take_at xs rest n fits.0);
}

-- ---- elements in their order

-- each is above the one before it
abbrev pub Ascends : {A : Type 0} → (A → A → Ordering) → Option A → List A → Type 0
Ascends cmp before [] = Unit {0}
Ascends cmp before (x ∷ xs) = (follows cmp before x ≡ true) × Ascends cmp (Some x) xs

module _ {A : Type 0} (read : Reader A) (cmp : A → A → Ordering) (text : A → List ℕ) (Fits : A → Type 0) (codec : IsCodec read text Fits) where
  items_take : (n : ℕ) (before : Option A) (bytes : List ℕ) (end : Option A × List ℕ) → IsBytes bytes → steps (next_at read cmp) n (before, bytes) ≡ Ok end
      → Takes bytes (flat_map text (elements read n bytes)) end.1 × (length (elements read n bytes) ≡ n) × AllByRecursion Fits (elements read n bytes) × Ascends cmp before (elements read n bytes)
  unfolding steps elements
  items_take zero before bytes end fits e =
      let same : bytes ≡ end.1 = ap (λ (x : Option A × List ℕ). x.1) (ok_is (before, bytes) end e) in
      (record { parts = same; rest_fits = subst IsBytes same fits }, refl, tt, tt)
  items_take (suc n) before bytes end fits e =
      let p = bind_ok (next_at read cmp (before, bytes)) (steps (next_at read cmp) n) end e in
      let q = bind_ok (read bytes) (λ x. cond (follows cmp before x.0) (Ok (Some x.0, x.1)) (Err (Outside (length bytes)))) p.0 p.1 in
      let g = guard_ok (follows cmp before q.0.0) (Outside (length bytes)) (Some q.0.0, q.0.1) p.0 q.2 in
      let t = codec.takes bytes q.0.0 q.0.1 fits q.1 in
      let e' : steps (next_at read cmp) n (Some q.0.0, q.0.1) ≡ Ok end = ap (steps (next_at read cmp) n) g.1 ∙ p.2 in
      let more = items_take n (Some q.0.0) q.0.1 end t.0.rest_fits e' in
      let list : elements read (suc n) bytes ≡ q.0.0 ∷ elements read n q.0.1 = ap (λ (r : Result (A × List ℕ) Miss). elim r [ Ok x ↦ x.0 ∷ elements read n x.1 | Err d ↦ [] ]) q.1 in
      subst (λ (xs : List A). Takes bytes (flat_map text xs) end.1 × (length xs ≡ suc n) × AllByRecursion Fits xs × Ascends cmp before xs) (sym list)
      (Takes-then bytes (text q.0.0) q.0.1 (flat_map text (elements read n q.0.1)) end.1 t.0 more.0, ap suc more.1, (t.1, more.2), (g.0, more.3))

  items_again : (xs : List A) (before : Option A) (rest : List ℕ) → AllByRecursion Fits xs → Ascends cmp before xs
      → (elements read (length xs) (flat_map text xs ++ rest) ≡ xs) × ((last : Option A) × (steps (next_at read cmp) (length xs) (before, flat_map text xs ++ rest) ≡ Ok (last, rest)))
  unfolding steps elements
  items_again [] before rest all up = (refl, (before, refl))
  items_again (x ∷ xs) before rest all up =
      let more = items_again xs (Some x) rest all.1 up.1 in
      let regrouped : flat_map text (x ∷ xs) ++ rest ≡ text x ++ (flat_map text xs ++ rest) = append_assoc (text x) (flat_map text xs) rest in
      let one : read (flat_map text (x ∷ xs) ++ rest) ≡ Ok (x, flat_map text xs ++ rest) = ap read regrouped ∙ codec.again x (flat_map text xs ++ rest) all.0 in
      let whole = flat_map text (x ∷ xs) ++ rest in
      let next : next_at read cmp (before, whole) ≡ Ok (Some x, flat_map text xs ++ rest) =
      ap (λ (r : Result (A × List ℕ) Miss). r >>= λ u. cond (follows cmp before u.0) (Ok (Some u.0, u.1)) (Err (Outside (length whole)))) one
      ∙ ap (λ (b : Bool). cond b (done (Some x, flat_map text xs ++ rest)) (Err (Outside (length whole)))) up.0 in (
        ap (λ (r : Result (A × List ℕ) Miss). elim r [ Ok u ↦ u.0 ∷ elements read (length xs) u.1 | Err d ↦ [] ]) one ∙ ap (λ (ys : List A). x ∷ ys) more.0,
        (more.1.0, ap (λ (r : Result (Option A × List ℕ) Miss). r >>= steps (next_at read cmp) (length xs)) next ∙ more.1.1),
      )

  pub codec-items : (n : ℕ) → IsCodec (items_at read cmp n) (flat_map text) (λ xs. (length xs ≡ n) × (AllByRecursion Fits xs × Ascends cmp None xs))
  codec-items n = record {
    takes = λ bytes xs rest fits e.
        let p = bind_ok (items_end read cmp n bytes) (λ r. done (elements read n bytes, r)) (xs, rest) e in
        let q = bind_ok (steps (next_at read cmp) n (None, bytes)) (λ x. done x.1) p.0 p.1 in
        let t = items_take n None bytes q.0 fits q.1 in
        let same : q.0.1 ≡ p.0 = ok_is q.0.1 p.0 q.2 in
        subst (λ (x : List A × List ℕ). Takes bytes (flat_map text x.0) x.1 × ((length x.0 ≡ n) × (AllByRecursion Fits x.0 × Ascends cmp None x.0))) (ok_is (elements read n bytes, p.0) (xs, rest) p.2)
        (subst (λ (r : List ℕ). Takes bytes (flat_map text (elements read n bytes)) r) same t.0, (t.1, (t.2, t.3)));
    again = λ xs rest fits.
        subst (λ (k : ℕ). items_at read cmp k (flat_map text xs ++ rest) ≡ Ok (xs, rest)) fits.0
        (let t = items_again xs None rest fits.1.0 fits.1.1 in
        ap (λ (r : Result (Option A × List ℕ) Miss). (r >>= λ x. done x.1) >>= λ z. done (elements read (length xs) (flat_map text xs ++ rest), z)) t.1.1
        ∙ ap (λ (ys : List A). done (ys, rest)) t.0);
  }
