-- The numbers that are held, by the least one at or above a number and the greatest one below it.
use Rattle.std.proofs.Common.{◌≡◌, ◌⊎◌, inl, inr, T, ℕ, ◌<◌, ◌≤◌, min, max, Bool, true, false, not, ◌&&◌, List, [], ◌∷◌, length, is_some, Option, None, Some, refl, sym, ap, ◌∙◌, subst, true≢false, eqb→eq, arith}
use Rattle.std.specs.Prelude.{nat_lt, nat_le, ◌==◌}
use Rattle.std.specs.List.{list_any, list_all}
use Rattle.std.proofs.lemmas.Bool.Decides.{nat_tests}
use Rattle.std.specs.Cmp.{both_ways}
use Rattle.std.specs.Option.{unwrap_or}
use Rattle.co_state.specs.Table.{lesser}
use Rattle.co_stamps.specs.Stamped.{IsLeastFrom, IsGreatestBelow}
use Rattle.co_mv.specs.declared.snapshots.Snapshots.{Snapshots}
use Rattle.co_mv.specs.declared.version.Version.{Version}
use Rattle.co_mv.specs.Kept.{held, needed, greater, IsHeld, IsNeeded, IsNext, IsLeastHeldFrom, IsGreatestHeldBelow}
use Rattle.co_mv.specs.Versions.{is_before, sees, is_gone}
use Rattle.co_mv.proofs.Needing.{any-held, held-any, none-held, all-needed, needed-all}
use Rattle.co_mv.proofs.Versioning.{le_true, true_le, lt_true, true_lt, and_first, and_second}

-- ---- the numbers of transactions and those of pins, taken together
one_of : (P : ℕ → Type 0) (n a b : ℕ) → (n ≡ a) ⊎ (n ≡ b) → P a → P b → P n
one_of P n a b (inl e) x y = subst P (sym e) x
one_of P n a b (inr e) x y = subst P (sym e) y

min_one : (a b : ℕ) → (min a b ≡ a) ⊎ (min a b ≡ b)
min_one a b = by (nat_le a b) refl
  where
    by : (c : Bool) → nat_le a b ≡ c → (min a b ≡ a) ⊎ (min a b ≡ b)
    by true e = let l : a ≤ b = true_le a b e in inl (omega (arith, l))
    by false e = let l : b < a = grind (arith, nat_tests) in inr (omega (arith, l))

max_one : (a b : ℕ) → (max a b ≡ a) ⊎ (max a b ≡ b)
max_one a b = by (nat_le a b) refl
  where
    by : (c : Bool) → nat_le a b ≡ c → (max a b ≡ a) ⊎ (max a b ≡ b)
    by true e = let l : a ≤ b = true_le a b e in inr (omega (arith, l))
    by false e = let l : b < a = grind (arith, nat_tests) in inl (omega (arith, l))

pub least_of_both : (s : Snapshots) (from : ℕ) (a b : Option ℕ) → IsLeastFrom s.stamps from a → IsLeastFrom s.pins from b → IsLeastHeldFrom s from (lesser a b)
least_of_both s from None None f g = by
  where
    by : (n : ℕ) → IsHeld s n → n < from
    by n (inl (t, e)) = f t n e
    by n (inr (i, e)) = g i n e
least_of_both s from None (Some b) f g = record { is_held = inr g.is_stamp; is_above = g.is_above; is_least = by }
  where
    by : (n : ℕ) → IsHeld s n → from ≤ n → b ≤ n
    by n (inl (t, e)) l = let m : n < from = f t n e in absurd (omega (arith, l, m))
    by n (inr (i, e)) l = g.is_least i n e l
least_of_both s from (Some a) None f g = record { is_held = inl f.is_stamp; is_above = f.is_above; is_least = by }
  where
    by : (n : ℕ) → IsHeld s n → from ≤ n → a ≤ n
    by n (inl (t, e)) l = f.is_least t n e l
    by n (inr (i, e)) l = let m : n < from = g i n e in absurd (omega (arith, l, m))
least_of_both s from (Some a) (Some b) f g = record {
  is_held = one_of (IsHeld s) (min a b) a b (min_one a b) (inl f.is_stamp) (inr g.is_stamp);
  is_above = let x = f.is_above in let y = g.is_above in omega (arith, x, y);
  is_least = by;
}
  where
    by : (n : ℕ) → IsHeld s n → from ≤ n → min a b ≤ n
    by n (inl (t, e)) l = let m : a ≤ n = f.is_least t n e l in omega (arith, m)
    by n (inr (i, e)) l = let m : b ≤ n = g.is_least i n e l in omega (arith, m)

pub greatest_of_both : (s : Snapshots) (end : ℕ) (a b : Option ℕ) → IsGreatestBelow s.stamps end a → IsGreatestBelow s.pins end b → IsGreatestHeldBelow s end (greater a b)
greatest_of_both s end None None f g = by
  where
    by : (n : ℕ) → IsHeld s n → end ≤ n
    by n (inl (t, e)) = f t n e
    by n (inr (i, e)) = g i n e
greatest_of_both s end None (Some b) f g = record { is_held = inr g.is_stamp; is_below = g.is_below; is_greatest = by }
  where
    by : (n : ℕ) → IsHeld s n → n < end → n ≤ b
    by n (inl (t, e)) l = let m : end ≤ n = f t n e in absurd (omega (arith, l, m))
    by n (inr (i, e)) l = g.is_greatest i n e l
greatest_of_both s end (Some a) None f g = record { is_held = inl f.is_stamp; is_below = f.is_below; is_greatest = by }
  where
    by : (n : ℕ) → IsHeld s n → n < end → n ≤ a
    by n (inl (t, e)) l = f.is_greatest t n e l
    by n (inr (i, e)) l = let m : end ≤ n = g i n e in absurd (omega (arith, l, m))
greatest_of_both s end (Some a) (Some b) f g = record {
  is_held = one_of (IsHeld s) (max a b) a b (max_one a b) (inl f.is_stamp) (inr g.is_stamp);
  is_below = let x = f.is_below in let y = g.is_below in omega (arith, x, y);
  is_greatest = by;
}
  where
    by : (n : ℕ) → IsHeld s n → n < end → n ≤ max a b
    by n (inl (t, e)) l = let m : n ≤ a = f.is_greatest t n e l in omega (arith, m)
    by n (inr (i, e)) l = let m : n ≤ b = g.is_greatest i n e l in omega (arith, m)

pub next_of : (s : Snapshots) (from : ℕ) (o : Option ℕ) → IsLeastHeldFrom s from o → from ≤ s.installs → IsNext s from (unwrap_or o s.installs)
next_of s from None all l = record { is_needed = inl refl; is_above = l; is_least = λ n h m. let x : n < from = all n h in absurd (omega (arith, m, x)) }
next_of s from (Some n) least l = record { is_needed = inr least.is_held; is_above = least.is_above; is_least = least.is_least }

-- ---- whether any number is held
not_empty : {X : Type 0} (x : X) (xs : List X) → not (length (x ∷ xs) == 0) ≡ true
not_empty x xs = ap not (by (length (x ∷ xs) == 0) refl)
  where
    by : (b : Bool) → (length (x ∷ xs) == 0) ≡ b → b ≡ false
    by true e = let y : length (x ∷ xs) ≡ 0 = eqb→eq (length (x ∷ xs)) 0 (subst T (sym e) tt) in absurd (omega (arith, y))
    by false e = refl

any_number : (xs : List ℕ) → not (length xs == 0) ≡ list_any (λ n. true) xs
any_number [] = refl
any_number (x ∷ xs) = not_empty x xs

pub some_held : (s : Snapshots) → not (length (held s) == 0) ≡ true → (n : ℕ) × IsHeld s n
some_held s e = let r = held-any (λ n. true) s (sym (any_number (held s)) ∙ e) in (r.0, r.1)

pub not_held : (s : Snapshots) (n : ℕ) → not (length (held s) == 0) ≡ false → IsHeld s n → ⊥
not_held s n e h = true≢false (sym (any-held (λ n. true) s n h refl) ∙ sym (any_number (held s)) ∙ e)

-- ---- a version that a reader reads is read at the least number at or above that of its install
abbrev pub sees_at : Option ℕ → Version → Bool
sees_at None v = false
sees_at (Some n) v = sees n v

earlier : (n k : ℕ) (end : Option ℕ) → n ≤ k → is_before k end ≡ true → is_before n end ≡ true
earlier n k None l h = refl
earlier n k (Some o) l h = let a : k < o = true_lt k o h in lt_true n o (omega (arith, a, l))

pub read_at_least : (s : Snapshots) (v : Version) (o : Option ℕ) → IsLeastHeldFrom s v.written o → sees_at o v ≡ list_any (λ n. sees n v) (held s)
read_at_least s v None all = sym (none-held (λ n. sees n v) s (λ n h. unseen n (all n h)))
  where
    unseen : (n : ℕ) → n < v.written → sees n v ≡ false
    unseen n l = let e : nat_le v.written n ≡ false = grind (arith, nat_tests, l) in ap (λ b. b && is_before n v.overwritten) e
read_at_least s v (Some n) least = both_ways _ _
    (λ h. any-held (λ k. sees k v) s n least.is_held h)
    (λ h.
    let r = held-any (λ k. sees k v) s h in
    let a : v.written ≤ r.0 = true_le v.written r.0 (and_first (nat_le v.written r.0) (is_before r.0 v.overwritten) r.2) in
    (λ i. le_true v.written n least.is_above i && earlier n r.0 v.overwritten (least.is_least r.0 r.1 a) (and_second (nat_le v.written r.0) (is_before r.0 v.overwritten) r.2) i))

pub some_below : (s : Snapshots) (n : ℕ) (o : Option ℕ) → IsGreatestHeldBelow s n o → is_some o ≡ list_any (λ m. nat_lt m n) (held s)
some_below s n None all = sym (none-held (λ m. nat_lt m n) s (λ m h. let l : n ≤ m = all m h in grind (arith, nat_tests, l)))
some_below s n (Some m) greatest = sym (any-held (λ k. nat_lt k n) s m greatest.is_held (lt_true m n greatest.is_below))

-- a record that a version took away is absent at all numbers that are read at
pub gone_at_all : (s : Snapshots) (v : Version) (b : Bool) → v.value ≡ None → v.written ≤ s.installs → b ≡ list_any (λ m. nat_lt m v.written) (held s) → not b ≡ is_gone (needed s) v
gone_at_all s v b gone l is = both_ways _ _ (λ h. to h) from ∙ ap (λ o. not (is_some o) && list_all (λ n. nat_le v.written n) (needed s)) (sym gone)
  where
    below_none : (n : ℕ) → IsNeeded s n → not b ≡ true → nat_le v.written n ≡ true
    below_none n (inl e) h = le_true v.written n (omega (arith, e, l))
    below_none n (inr m) h = by (nat_lt n v.written) refl
      where
        by : (c : Bool) → nat_lt n v.written ≡ c → nat_le v.written n ≡ true
        by true f = absurd (true≢false (sym (sym (ap not (is ∙ any-held (λ m. nat_lt m v.written) s n m f)) ∙ h)))
        by false f = grind (arith, nat_tests)

    to : not b ≡ true → list_all (λ n. nat_le v.written n) (needed s) ≡ true
    to h = needed-all (λ n. nat_le v.written n) s (λ n g. below_none n g h)

    from : list_all (λ n. nat_le v.written n) (needed s) ≡ true → not b ≡ true
    from h = ap not (is ∙ none-held (λ m. nat_lt m v.written) s (λ n g. let m : v.written ≤ n = true_le v.written n (all-needed (λ n. nat_le v.written n) s n h (inr g)) in grind (arith, nat_tests, m)))
