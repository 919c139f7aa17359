-- The oldest read, by the numbers in order.
use Rattle.std.proofs.Common.{◌≡◌, ◌⊎◌, inl, inr, T, ℕ, ◌<◌, ◌≤◌, Bool, true, false, cond, List, [], ◌∷◌, min, nat_le, Option, None, Some, refl, sym, ap, ◌∙◌, eq-eqb, arith}
use Rattle.std.proofs.Math.Dec.{eqb}
use Rattle.std.proofs.lemmas.Bool.{eqb-true}
use Rattle.std.proofs.lemmas.Bool.Decides.{nat_tests}
use Rattle.std.specs.Option.{option_eq}
use Rattle.std.specs.Ordering.{nat_cmp, eq_by_cmp}
use Rattle.std.specs.FinMap.{entries, entries_sorted, get-entries, get-empty}
use Rattle.std.specs.FinMap.Entries.{find, below_all, is_sorted}
use Rattle.co_state.specs.Table.{Table, no_entries, look, put, without, lesser}
use Rattle.co_state.proofs.Tables.{look-put, look-without, same_table}
use Rattle.co_stamps.specs.Stamped.{IsLeastFrom}
use Rattle.co_occ.specs.declared.reads.Reads.{Reads}
use Rattle.co_occ.specs.Kept.{oldest_kept}
use Rattle.co_occ.specs.Reading.{oldest_at, KnowsOldest, with_oldest}
use Rattle.co_pairs.proofs.Picking.{first, second, tied, ties}
use Rattle.co_state.proofs.Ties.{nothing_below}

-- ---- after each call
pub knows_none : (oldest : Table ℕ) (reads : Table Reads) → oldest ≡ no_entries → reads ≡ no_entries → KnowsOldest oldest reads
knows_none oldest reads e f = record { each = λ t. ap (λ m. look m t) e ∙ get-empty nat_cmp t ∙ sym (ap (λ m. oldest_at (look m t)) f ∙ ap oldest_at (get-empty nat_cmp t)) }

pub knows_taken : (oldest after : Table ℕ) (reads left : Table Reads) (t : ℕ) → KnowsOldest oldest reads → after ≡ without oldest t → left ≡ without reads t → KnowsOldest after left
knows_taken oldest after reads left t k e f = record {
  each = λ u. ap (λ m. look m u) e ∙ look-without oldest t u ∙ by u (eq_by_cmp nat_cmp u t) ∙ sym (ap (λ m. oldest_at (look m u)) f ∙ ap oldest_at (look-without reads t u));
}
  where
    by : (u : ℕ) (b : Bool) → cond b None (look oldest u) ≡ oldest_at (cond b None (look reads u))
    by u true = refl
    by u false = k.each u

-- a transaction is laid in, with the number of its oldest read if it has one
no_stamp : (oldest : Table ℕ) (reads : Table Reads) (t : ℕ) → KnowsOldest oldest reads → look reads t ≡ None → look oldest t ≡ None
no_stamp oldest reads t k none = k.each t ∙ ap oldest_at none

pub knows_put : (oldest after : Table ℕ) (reads laid : Table Reads) (t : ℕ) (e : Reads) (o : Option ℕ) → KnowsOldest oldest reads → look reads t ≡ None → o ≡ e.oldest
    → after ≡ with_oldest oldest t o → laid ≡ put reads t e → KnowsOldest after laid
knows_put oldest after reads laid t e o k none is f g = record { each = λ u. ap (λ m. look m u) f ∙ by u o is ∙ sym (ap (λ m. oldest_at (look m u)) g ∙ ap oldest_at (look-put reads t e u)) }
  where
    at : (u stamp : ℕ) (b : Bool) → Some stamp ≡ e.oldest → cond b (Some stamp) (look oldest u) ≡ oldest_at (cond b (Some e) (look reads u))
    at u stamp true h = h
    at u stamp false h = k.each u

    unread : (u : ℕ) (b : Bool) → eq_by_cmp nat_cmp u t ≡ b → None ≡ e.oldest → look oldest u ≡ oldest_at (cond b (Some e) (look reads u))
    unread u true y h = ap (look oldest) (tied u t y) ∙ no_stamp oldest reads t k none ∙ h
    unread u false y h = k.each u

    by : (u : ℕ) (o : Option ℕ) → o ≡ e.oldest → look (with_oldest oldest t o) u ≡ oldest_at (cond (eq_by_cmp nat_cmp u t) (Some e) (look reads u))
    by u None h = unread u (eq_by_cmp nat_cmp u t) refl h
    by u (Some stamp) h = look-put oldest t stamp u ∙ at u stamp (eq_by_cmp nat_cmp u t) h

pub taken_out : (reads after : Table Reads) (t : ℕ) → after ≡ without reads t → look after t ≡ None
taken_out reads after t e = ap (λ m. look m t) e ∙ look-without reads t t ∙ ap (λ b. cond b None (look reads t)) (ties t t ∙ eq-eqb t t refl)

-- ---- a number that is laid in again where it stands changes nothing
pub same_stamp : (a b : Option ℕ) → option_eq eqb a b ≡ true → a ≡ b
same_stamp None None h = refl
same_stamp None (Some n) h = absurd (let g : false ≡ true = h in cc)
same_stamp (Some m) None h = absurd (let g : false ≡ true = h in cc)
same_stamp (Some m) (Some n) h = ap Some (eqb-true m n h)

pub renumbered : (stamps : Table ℕ) (t : ℕ) (o : Option ℕ) → look stamps t ≡ o → stamps ≡ with_oldest (without stamps t) t o
renumbered stamps t o h = same_table _ _ (λ u. by u o h (eq_by_cmp nat_cmp u t) refl)
  where
    left : (u : ℕ) (b : Bool) → eq_by_cmp nat_cmp u t ≡ b → look (without stamps t) u ≡ cond b None (look stamps u)
    left u b y = look-without stamps t u ∙ ap (λ b. cond b None (look stamps u)) y

    by : (u : ℕ) (o : Option ℕ) → look stamps t ≡ o → (b : Bool) → eq_by_cmp nat_cmp u t ≡ b → look stamps u ≡ look (with_oldest (without stamps t) t o) u
    by u None h true y = ap (look stamps) (tied u t y) ∙ h ∙ sym (left u true y)
    by u None h false y = sym (left u false y)
    by u (Some stamp) h true y = ap (look stamps) (tied u t y) ∙ h ∙ sym (look-put (without stamps t) t stamp u ∙ ap (λ b. cond b (Some stamp) (look (without stamps t) u)) y)
    by u (Some stamp) h false y = sym (look-put (without stamps t) t stamp u ∙ ap (λ b. cond b (Some stamp) (look (without stamps t) u)) y ∙ left u false y)

-- a transaction reads once more
pub knows_read : (oldest after : Table ℕ) (reads laid : Table Reads) (t : ℕ) (e : Reads) (o : Option ℕ) → KnowsOldest oldest reads → o ≡ e.oldest
    → after ≡ with_oldest (without oldest t) t o → laid ≡ put (without reads t) t e → KnowsOldest after laid
knows_read oldest after reads laid t e o k is f g =
    knows_put (without oldest t) after (without reads t) laid t e o (knows_taken oldest (without oldest t) reads (without reads t) t k refl refl)
    (taken_out reads (without reads t) t refl) is f g

-- what it read is taken out again
pub knows_lost : (oldest after : Table ℕ) (reads laid left : Table Reads) (t : ℕ) (e : Reads) → KnowsOldest oldest reads
    → after ≡ without oldest t → laid ≡ put (without reads t) t e → left ≡ without laid t → KnowsOldest after left
knows_lost oldest after reads laid left t e k f g h = record {
  each = λ u. ap (λ m. look m u) f ∙ look-without oldest t u ∙ by u (eq_by_cmp nat_cmp u t) refl
      ∙ sym (ap (λ m. oldest_at (look m u)) h ∙ ap oldest_at (look-without laid t u));
}
  where
    by : (u : ℕ) (b : Bool) → eq_by_cmp nat_cmp u t ≡ b → cond b None (look oldest u) ≡ oldest_at (cond b None (look laid u))
    by u true y = refl
    by u false y = k.each u ∙ sym (ap oldest_at (ap (λ m. look m u) g ∙ look-put (without reads t) t e u ∙ ap (λ b. cond b (Some e) (look (without reads t) u)) y
        ∙ look-without reads t u ∙ ap (λ b. cond b None (look reads u)) y))

-- ---- the least of them
found_case : (f : ℕ × Reads) (fs : List (ℕ × Reads)) (t : ℕ) (e : Reads) → find nat_cmp t (f ∷ fs) ≡ Some e → (f.1 ≡ e) ⊎ (find nat_cmp t fs ≡ Some e)
found_case f fs t e h = by (eq_by_cmp nat_cmp t f.0) h
  where
    by : (b : Bool) → cond b (Some f.1) (find nat_cmp t fs) ≡ Some e → (f.1 ≡ e) ⊎ (find nat_cmp t fs ≡ Some e)
    by true h = inl (let g : Some f.1 ≡ Some e = h in cc)
    by false h = inr h

found_first : (f : ℕ × Reads) (fs : List (ℕ × Reads)) → find nat_cmp f.0 (f ∷ fs) ≡ Some f.1
found_first f fs = ap (λ b. cond b (Some f.1) (find nat_cmp f.0 fs)) (ties f.0 f.0 ∙ eq-eqb f.0 f.0 refl)

found_later : (f : ℕ × Reads) (fs : List (ℕ × Reads)) (t : ℕ) (e : Reads) → T (below_all nat_cmp f.0 fs) → find nat_cmp t fs ≡ Some e → find nat_cmp t (f ∷ fs) ≡ Some e
found_later f fs t e s h = by (eq_by_cmp nat_cmp t f.0) refl
  where
    by : (b : Bool) → eq_by_cmp nat_cmp t f.0 ≡ b → cond b (Some f.1) (find nat_cmp t fs) ≡ Some e
    by true y = absurd (let g : None ≡ Some e = sym (ap (λ k. find nat_cmp k fs) (tied t f.0 y) ∙ nothing_below nat_cmp f.0 fs s) ∙ h in cc)
    by false y = h

abbrev IsLow : List (ℕ × Reads) → Option ℕ → Type 0
IsLow es None = (t : ℕ) (e : Reads) → find nat_cmp t es ≡ Some e → e.oldest ≡ None
IsLow es (Some m) = ((t : ℕ) × (e : Reads) × (find nat_cmp t es ≡ Some e) × (e.oldest ≡ Some m))
    × ((t : ℕ) (e : Reads) (n : ℕ) → find nat_cmp t es ≡ Some e → e.oldest ≡ Some n → m ≤ n)

same_number : (m n : ℕ) → Some m ≡ Some n → m ≡ n
same_number m n e = cc

low_step : (f : ℕ × Reads) (fs : List (ℕ × Reads)) (a b : Option ℕ) → T (below_all nat_cmp f.0 fs) → f.1.oldest ≡ a → IsLow fs b → IsLow (f ∷ fs) (lesser a b)
low_step f fs None None s h low = λ t e g. by t e (found_case f fs t e g)
  where
    by : (t : ℕ) (e : Reads) → (f.1 ≡ e) ⊎ (find nat_cmp t fs ≡ Some e) → e.oldest ≡ None
    by t e (inl x) = ap (λ (y : Reads). y.oldest) (sym x) ∙ h
    by t e (inr x) = low t e x
low_step f fs None (Some m) s h low =
    let r = low.0 in
    ((r.0, r.1, found_later f fs r.0 r.1 s r.2, r.3), λ t e n g i. by t e n i (found_case f fs t e g))
  where
    by : (t : ℕ) (e : Reads) (n : ℕ) → e.oldest ≡ Some n → (f.1 ≡ e) ⊎ (find nat_cmp t fs ≡ Some e) → m ≤ n
    by t e n i (inl x) = absurd (let j : None ≡ Some n = sym h ∙ ap (λ (y : Reads). y.oldest) x ∙ i in cc)
    by t e n i (inr x) = low.1 t e n x i
low_step f fs (Some a) None s h low = ((f.0, f.1, found_first f fs, h), λ t e n g i. by t e n i (found_case f fs t e g))
  where
    by : (t : ℕ) (e : Reads) (n : ℕ) → e.oldest ≡ Some n → (f.1 ≡ e) ⊎ (find nat_cmp t fs ≡ Some e) → a ≤ n
    by t e n i (inl x) = let j : a ≡ n = same_number a n (sym h ∙ ap (λ (y : Reads). y.oldest) x ∙ i) in omega (arith, j)
    by t e n i (inr x) = absurd (let j : None ≡ Some n = sym (low t e x) ∙ i in cc)
low_step f fs (Some a) (Some m) s h low = (least (nat_le a m) refl, λ t e n g i. by t e n i (found_case f fs t e g))
  where
    least : (b : Bool) → nat_le a m ≡ b → (t : ℕ) × (e : Reads) × (find nat_cmp t (f ∷ fs) ≡ Some e) × (e.oldest ≡ Some (min a m))
    least true y = (f.0, f.1, found_first f fs, h ∙ ap Some (let z : a ≤ m = grind (arith, nat_tests) in let w : a ≡ min a m = omega (arith, z) in w))
    least false y = let r = low.0 in (r.0, r.1, found_later f fs r.0 r.1 s r.2, r.3 ∙ ap Some (let z : m < a = grind (arith, nat_tests) in let w : m ≡ min a m = omega (arith, z) in w))

    by : (t : ℕ) (e : Reads) (n : ℕ) → e.oldest ≡ Some n → (f.1 ≡ e) ⊎ (find nat_cmp t fs ≡ Some e) → min a m ≤ n
    by t e n i (inl x) = let j : a ≡ n = same_number a n (sym h ∙ ap (λ (y : Reads). y.oldest) x ∙ i) in omega (arith, j)
    by t e n i (inr x) = let j : m ≤ n = low.1 t e n x i in omega (arith, j)

kept_low : (es : List (ℕ × Reads)) → T (is_sorted nat_cmp es) → IsLow es (oldest_kept es)
kept_low [] s = λ t e g. absurd (let h : None ≡ Some e = g in cc)
kept_low (f ∷ fs) s = low_step f fs (f.1.oldest) (oldest_kept fs) (first _ _ s) refl (kept_low fs (second _ _ s))

one_low : (es : List (ℕ × Reads)) (a b : Option ℕ) → IsLow es a → IsLow es b → a ≡ b
one_low es None None x y = refl
one_low es None (Some n) x y = absurd (let r = y.0 in let g : None ≡ Some n = sym (x r.0 r.1 r.2) ∙ r.3 in cc)
one_low es (Some m) None x y = absurd (let r = x.0 in let g : None ≡ Some m = sym (y r.0 r.1 r.2) ∙ r.3 in cc)
one_low es (Some m) (Some n) x y =
    let r = x.0 in
    let q = y.0 in
    let l : m ≤ n = x.1 q.0 q.1 n q.2 q.3 in
    let k : n ≤ m = y.1 r.0 r.1 m r.2 r.3 in
    ap Some (let e : m ≡ n = omega (arith, l, k) in e)

stamp_found : (oldest : Table ℕ) (reads : Table Reads) (t n : ℕ) → KnowsOldest oldest reads → look oldest t ≡ Some n → (e : Reads) × (find nat_cmp t (entries reads) ≡ Some e) × (e.oldest ≡ Some n)
stamp_found oldest reads t n k h = by (look reads t) refl (sym (k.each t) ∙ h)
  where
    by : (o : Option Reads) → look reads t ≡ o → oldest_at (look reads t) ≡ Some n → (e : Reads) × (find nat_cmp t (entries reads) ≡ Some e) × (e.oldest ≡ Some n)
    by None f g = absurd (let i : None ≡ Some n = sym (ap oldest_at f) ∙ g in cc)
    by (Some e) f g = (e, sym (get-entries reads t) ∙ f, sym (ap oldest_at f) ∙ g)

found_stamp : (oldest : Table ℕ) (reads : Table Reads) (t : ℕ) (e : Reads) → KnowsOldest oldest reads → find nat_cmp t (entries reads) ≡ Some e → look oldest t ≡ e.oldest
found_stamp oldest reads t e k h = k.each t ∙ ap oldest_at (get-entries reads t ∙ h)

pub oldest_known : (oldest : Table ℕ) (reads : Table Reads) (o : Option ℕ) → KnowsOldest oldest reads → IsLeastFrom oldest 0 o → o ≡ oldest_kept (entries reads)
oldest_known oldest reads o k least = one_low (entries reads) o (oldest_kept (entries reads)) (by o least) (kept_low (entries reads) (entries_sorted reads))
  where
    no_number : (t : ℕ) (o : Option ℕ) → look oldest t ≡ o → ((t n : ℕ) → look oldest t ≡ Some n → n < 0) → o ≡ None
    no_number t None f all = refl
    no_number t (Some n) f all = let l : n < 0 = all t n f in absurd (omega (arith, l))

    by : (o : Option ℕ) → IsLeastFrom oldest 0 o → IsLow (entries reads) o
    by None all = λ t e h. no_number t (e.oldest) (found_stamp oldest reads t e k h) all
    by (Some m) least = (
      let r = stamp_found oldest reads least.is_stamp.0 m k least.is_stamp.1 in (least.is_stamp.0, r.0, r.1, r.2),
      λ t e n h i. least.is_least t n (found_stamp oldest reads t e k h ∙ i) (let z : 0 ≤ n = omega arith in z),
    )
