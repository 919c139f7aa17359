-- The least number that passes a test, and the first entry of a table.
use Rattle.std.proofs.Common.{◌≡◌, ℕ, ◌<◌, Bool, true, false, cond, ◌&&◌, ◌||◌, T, min, List, [], ◌∷◌, Option, None, Some, ◌⊎◌, inl, inr, refl, sym, ap, subst, ◌∙◌, arith}
use Rattle.std.specs.FinMap.{entries, entries_sorted, get-entries}
use Rattle.std.specs.FinMap.Entries.{find, is_sorted, below_all}
use Rattle.std.specs.Ordering.{nat_cmp, eq_by_cmp, is_lt, is_eq}
use Rattle.std.specs.Cmp.{nat_cmp_is, nat_cmp_total}
use Rattle.std.specs.declared.cmp.Ordering.{Ordering}
use Rattle.std.specs.declared.cmp.Ordering.TheVariants.{Less, Equal, Greater}
use Rattle.std.proofs.lemmas.Bool.{cases_order}
use Rattle.std.proofs.lemmas.Bool.Decides.{nat_tests}
use Rattle.std.proofs.lemmas.Cmp.{tied_itself}
use Rattle.co_state.specs.Table.{Table, look, first_in, least_where, lesser}
use Rattle.co_state.proofs.Tables.{same_test}

-- the number is the least that passes, or none does
abbrev pub IsLeast : (ℕ → Bool) → Option ℕ → Type 0
IsLeast test None = (u : ℕ) → test u ≡ false
IsLeast test (Some u) = (test u ≡ true) × ((v : ℕ) → v < u → test v ≡ false)

clash : {A : Type 0} (b : Bool) → b ≡ true → b ≡ false → A
clash b p q = absurd (let e : true ≡ false = sym p ∙ q in cc)

-- there is one such number
pub least_once : (test : ℕ → Bool) (a b : Option ℕ) → IsLeast test a → IsLeast test b → a ≡ b
least_once test None None p q = refl
least_once test None (Some v) p q = clash (test v) q.0 (p v)
least_once test (Some u) None p q = clash (test u) p.0 (q u)
least_once test (Some u) (Some v) p q = by (cases_order u v)
  where
    by : (u ≡ v) ⊎ ((u < v) ⊎ (v < u)) → Some u ≡ Some v
    by (inl e) = ap Some e
    by (inr (inl l)) = clash (test u) p.0 (q.1 u l)
    by (inr (inr l)) = clash (test v) q.0 (p.1 v l)

-- and it is the same for tests that agree
pub least_of : (one other : ℕ → Bool) (a : Option ℕ) → ((u : ℕ) → one u ≡ other u) → IsLeast one a → IsLeast other a
least_of one other None same p = λ u. sym (same u) ∙ p u
least_of one other (Some u) same p = (sym (same u) ∙ p.0, λ v l. sym (same v) ∙ p.1 v l)

or_right : (a b : Bool) → b ≡ true → (a || b) ≡ true
or_right true b e = refl
or_right false b e = e

or_left : (a b : Bool) → a ≡ true → (a || b) ≡ true
or_left true b e = refl
or_left false b e = absurd (let q : false ≡ true = e in cc)

or_none : (a b : Bool) → a ≡ false → b ≡ false → (a || b) ≡ false
or_none true b e f = absurd (let q : true ≡ false = e in cc)
or_none false b e f = f

-- the lesser of two least numbers passes one of the two tests
pub least_of_both : (p q : ℕ → Bool) (a b : Option ℕ) → IsLeast p a → IsLeast q b → IsLeast (λ u. p u || q u) (lesser a b)
least_of_both p q None None f g = λ u. or_none (p u) (q u) (f u) (g u)
least_of_both p q None (Some v) f g = (or_right (p v) (q v) g.0, λ w l. or_none (p w) (q w) (f w) (g.1 w l))
least_of_both p q (Some u) None f g = (or_left (p u) (q u) f.0, λ w l. or_none (p w) (q w) (f.1 w l) (g w))
least_of_both p q (Some u) (Some v) f g = by (cases_order u v)
  where
    both_below : (w : ℕ) → w < min u v → (p w || q w) ≡ false
    both_below w l = or_none (p w) (q w) (f.1 w (omega arith)) (g.1 w (omega arith))

    at : (m : ℕ) → m ≡ min u v → (p m || q m) ≡ true → IsLeast (λ w. p w || q w) (Some (min u v))
    at m e h = (subst (λ k. (p k || q k) ≡ true) e h, both_below)

    by : (u ≡ v) ⊎ ((u < v) ⊎ (v < u)) → IsLeast (λ w. p w || q w) (Some (min u v))
    by (inl e) = at u (omega arith) (or_left (p u) (q u) f.0)
    by (inr (inl l)) = at u (omega arith) (or_left (p u) (q u) f.0)
    by (inr (inr l)) = at v (omega arith) (or_right (p v) (q v) g.0)

-- ---- tables

pub less_is : (x y : ℕ) → nat_cmp x y ≡ Less → x < y
less_is x y e = by (cases_order x y)
  where
    by : (x ≡ y) ⊎ ((x < y) ⊎ (y < x)) → x < y
    by (inl q) = absurd (let z : Less ≡ Equal = sym e ∙ sym (nat_cmp_is x y Equal q) in cc)
    by (inr (inl l)) = l
    by (inr (inr g)) = absurd (let z : Less ≡ Greater = sym e ∙ sym (nat_cmp_is x y Greater g) in cc)

abbrev pub passed : {X : Type 0} → (ℕ → X → Bool) → ℕ → Option X → Bool
passed test u None = false
passed test u (Some x) = test u x

both_T : (a b : Bool) → T (a && b) → T a × T b
both_T true b h = (tt, h)
both_T false b h = absurd h

and_T : (a b : Bool) → T a → T b → T (a && b)
and_T true b p q = q
and_T false b p q = absurd p

is_less : (r : Ordering) → T (is_lt r) → r ≡ Less
is_less Less p = refl
is_less Equal p = absurd p
is_less Greater p = absurd p

lesser_below : {X : Type 0} (v k : ℕ) (es : List (ℕ × X)) → v < k → T (below_all nat_cmp k es) → T (below_all nat_cmp v es)
lesser_below v k [] l below = tt
lesser_below v k (e ∷ es) l below =
    let b = both_T (is_lt (nat_cmp k e.0)) (below_all nat_cmp k es) below in
    let m = less_is k e.0 (is_less _ b.0) in
    let n : v < e.0 = omega arith in
    and_T (is_lt (nat_cmp v e.0)) _ (subst (λ r. T (is_lt r)) (nat_cmp_is v e.0 Less n) tt) (lesser_below v k es l b.1)

none_found : {X : Type 0} (k : ℕ) (es : List (ℕ × X)) → T (below_all nat_cmp k es) → find nat_cmp k es ≡ None
none_found k [] below = refl
none_found k (e ∷ es) below =
    let b = both_T (is_lt (nat_cmp k e.0)) (below_all nat_cmp k es) below in
    ap (λ r. cond (is_eq r) (Some e.1) (find nat_cmp k es)) (is_less _ b.0) ∙ none_found k es b.1

module _ {X : Type 0} (test : ℕ → X → Bool) where
  found_at : (e : ℕ × X) (es : List (ℕ × X)) → passed test e.0 (find nat_cmp e.0 (e ∷ es)) ≡ test e.0 e.1
  found_at e es = ap (λ r. passed test e.0 (cond (is_eq r) (Some e.1) (find nat_cmp e.0 es))) (tied_itself nat_cmp_total e.0)

  -- an entry that fails the test does not count
  passed_over : (e : ℕ × X) (es : List (ℕ × X)) → test e.0 e.1 ≡ false → T (below_all nat_cmp e.0 es) → (u : ℕ) → passed test u (find nat_cmp u es) ≡ passed test u (find nat_cmp u (e ∷ es))
  passed_over e es fails below u = by (eq_by_cmp nat_cmp u e.0) refl
    where
      by : (c : Bool) → eq_by_cmp nat_cmp u e.0 ≡ c → passed test u (find nat_cmp u es) ≡ passed test u (cond (eq_by_cmp nat_cmp u e.0) (Some e.1) (find nat_cmp u es))
      by false g = ap (λ c. passed test u (cond c (Some e.1) (find nat_cmp u es))) (sym g)
      by true g =
          let same : u ≡ e.0 = grind (arith, nat_tests, g, same_test u e.0) in
          let none : find nat_cmp u es ≡ None = ap (λ k. find nat_cmp k es) same ∙ none_found e.0 es below in
          let last : test u e.1 ≡ false = ap (λ k. test k e.1) same ∙ fails in
          ap (passed test u) none ∙ sym last ∙ ap (λ c. passed test u (cond c (Some e.1) (find nat_cmp u es))) (sym g)

  first_least : (es : List (ℕ × X)) → T (is_sorted nat_cmp es) → IsLeast (λ u. passed test u (find nat_cmp u es)) (first_in test es)
  first_least [] sorted = λ u. refl
  first_least (e ∷ es) sorted = by (first_least es (both_T (below_all nat_cmp e.0 es) (is_sorted nat_cmp es) sorted).1) (test e.0 e.1) refl
    where
      s : T (below_all nat_cmp e.0 es) × T (is_sorted nat_cmp es)
      s = both_T (below_all nat_cmp e.0 es) (is_sorted nat_cmp es) sorted

      lower : (v : ℕ) → v < e.0 → passed test v (find nat_cmp v (e ∷ es)) ≡ false
      lower v l =
          let less : T (is_lt (nat_cmp v e.0)) = subst (λ r. T (is_lt r)) (nat_cmp_is v e.0 Less l) tt in
          ap (passed test v) (none_found v (e ∷ es) (and_T (is_lt (nat_cmp v e.0)) (below_all nat_cmp v es) less (lesser_below v e.0 es l s.0)))

      by : IsLeast (λ u. passed test u (find nat_cmp u es)) (first_in test es) → (c : Bool) → test e.0 e.1 ≡ c → IsLeast (λ u. passed test u (find nat_cmp u (e ∷ es))) (cond (test e.0 e.1) (Some e.0) (first_in test es))
      by rest true g = subst (λ c. IsLeast (λ u. passed test u (find nat_cmp u (e ∷ es))) (cond c (Some e.0) (first_in test es))) (sym g) (found_at e es ∙ g, lower)
      by rest false g = subst (λ c. IsLeast (λ u. passed test u (find nat_cmp u (e ∷ es))) (cond c (Some e.0) (first_in test es))) (sym g)
          (least_of _ _ (first_in test es) (passed_over e es g s.0) rest)

  -- the first entry of a table that passes is the least
  pub table_least : (table : Table X) → IsLeast (λ u. passed test u (look table u)) (least_where test table)
  table_least table = least_of _ _ (least_where test table) (λ u. ap (passed test u) (sym (get-entries table u))) (first_least (entries table) (entries_sorted table))
