-- What the entries of a map weigh together.
use Rattle.std.proofs.Common.{◌≡◌, ℕ, ◌+◌, ◌≤◌, Bool, true, false, cond, not, T, List, [], ◌∷◌, length, Option, None, Some, refl, sym, ap, ◌∙◌, subst, arith}
use Rattle.std.specs.Prelude.{◌&&◌}
use Rattle.std.specs.Cmp.{IsTotalOrder, eq_by_cmp_equiv}
use Rattle.std.specs.Ordering.{eq_by_cmp, is_lt, is_eq}
use Rattle.std.specs.declared.cmp.Ordering.{Ordering}
use Rattle.std.specs.declared.cmp.Ordering.TheVariants.{Less, Equal, Greater}
use Rattle.std.specs.FinMap.{FinMap, IsAntisymmetric, empty, entries, entries_sorted, entries-insert, get, get-entries, get-remove, insert, remove, len-entries, len-empty}
use Rattle.std.specs.FinMap.Entries.{by_order, put, find, where_key, below_all, is_sorted, is_sorted-where_key, find-where_key, same_entries}

both_T : (a b : Bool) → T (a && b) → T a × T b
both_T true b h = (tt, h)
both_T false b h = absurd h

is_less : (r : Ordering) → T (is_lt r) → r ≡ Less
is_less Less h = refl
is_less Equal h = absurd h
is_less Greater h = absurd h

is_equal : (r : Ordering) → is_eq r ≡ true → r ≡ Equal
is_equal Less h = absurd (let z : false ≡ true = h in cc)
is_equal Equal h = refl
is_equal Greater h = absurd (let z : false ≡ true = h in cc)

-- the sum over entries, and what an entry weighs where there is one
abbrev pub weighs : {K X : Type 0} → (K → X → ℕ) → List (K × X) → ℕ
weighs f [] = 0
weighs f (e ∷ es) = f e.0 e.1 + weighs f es

abbrev pub held : {K X : Type 0} → (K → X → ℕ) → K → Option X → ℕ
held f k None = 0
held f k (Some x) = f k x

module _ {K X : Type 0} {R : K → K → Ordering} (o : IsTotalOrder R) (same : IsAntisymmetric R) (f : K → X → ℕ) where
  none_below : (k q : K) (es : List (K × X)) → R k q ≡ Less → T (below_all R q es) → find R k es ≡ None
  none_below k q [] l h = refl
  none_below k q (e ∷ es) l h =
      let less : R k e.0 ≡ Less = o.trans k q e.0 l (is_less (R q e.0) (both_T _ _ h).0) in
      ap (λ r. cond (is_eq r) (Some e.1) (find R k es)) less ∙ none_below k q es l (both_T _ _ h).1

  put_weighs : (k : K) (v : X) (es : List (K × X)) → T (is_sorted R es) → weighs f (put R k v es) + held f k (find R k es) ≤ f k v + weighs f es
  put_weighs k v [] s = omega arith
  put_weighs k v (e ∷ es) s = by (put_weighs k v es (both_T _ _ s).1) (R k e.0) refl
    where
      by : weighs f (put R k v es) + held f k (find R k es) ≤ f k v + weighs f es → (r : Ordering) → R k e.0 ≡ r →
          weighs f (by_order (R k e.0) ((k, v) ∷ e ∷ es) ((e.0, v) ∷ es) (e ∷ put R k v es)) + held f k (cond (is_eq (R k e.0)) (Some e.1) (find R k es)) ≤ f k v + (f e.0 e.1 + weighs f es)
      by rest Less p = rw p (rw (none_below k e.0 es p (both_T _ _ s).0) (omega arith))
      by rest Equal p =
          rw p (subst (λ q. (f e.0 v + weighs f es) + f q e.1 ≤ f q v + (f e.0 e.1 + weighs f es)) (sym (same k e.0 p)) (omega arith))
      by rest Greater p = rw p (omega (arith, rest))

  out_weighs : (k : K) (es : List (K × X)) → weighs f (where_key R (λ x. not (eq_by_cmp R k x)) es) + held f k (find R k es) ≤ weighs f es
  out_weighs k [] = omega arith
  out_weighs k (e ∷ es) = by (out_weighs k es) (eq_by_cmp R k e.0) refl
    where
      rest_of : List (K × X)
      rest_of = where_key R (λ x. not (eq_by_cmp R k x)) es

      by : weighs f (where_key R (λ x. not (eq_by_cmp R k x)) es) + held f k (find R k es) ≤ weighs f es → (b : Bool) → eq_by_cmp R k e.0 ≡ b →
          weighs f (cond (not (eq_by_cmp R k e.0)) (e ∷ rest_of) rest_of) + held f k (cond (eq_by_cmp R k e.0) (Some e.1) (find R k es)) ≤ f e.0 e.1 + weighs f es
      by rest true p =
          rw p (subst (λ q. weighs f rest_of + f q e.1 ≤ f e.0 e.1 + weighs f es) (sym (same k e.0 (is_equal (R k e.0) p))) (omega (arith, rest)))
      by rest false p = rw p (omega (arith, rest))

  -- an entry is laid in; it replaces the one that stood there
  pub insert_weighs : (m : FinMap R X) (k : K) (v : X) → weighs f (entries (insert m k v)) + held f k (get m k) ≤ f k v + weighs f (entries m)
  insert_weighs m k v = rw (entries-insert o m k v) (rw (get-entries m k) (put_weighs k v (entries m) (entries_sorted m)))

  -- an entry is taken out
  entries_out : (m : FinMap R X) (k : K) → entries (remove m k) ≡ where_key R (λ x. not (eq_by_cmp R k x)) (entries m)
  entries_out m k =
      same_entries R o same (entries (remove m k)) (where_key R (λ x. not (eq_by_cmp R k x)) (entries m)) (entries_sorted (remove m k))
      (is_sorted-where_key R (λ x. not (eq_by_cmp R k x)) (entries m) (entries_sorted m))
      (λ q. sym (get-entries (remove m k) q) ∙ get-remove o m k q
      ∙ ap (λ b. cond b None (get m q)) ((eq_by_cmp_equiv o).symm q k)
      ∙ turned (eq_by_cmp R k q) (get m q)
      ∙ ap (λ z. cond (not (eq_by_cmp R k q)) z None) (get-entries m q)
      ∙ sym (find-where_key R (λ x. not (eq_by_cmp R k x)) q (λ x t. ap (λ z. not (eq_by_cmp R k z)) (sym (same q x t))) (entries m)))
    where
      turned : (b : Bool) (z : Option X) → cond b None z ≡ cond (not b) z None
      turned true z = refl
      turned false z = refl

  pub remove_weighs : (m : FinMap R X) (k : K) → weighs f (entries (remove m k)) + held f k (get m k) ≤ weighs f (entries m)
  remove_weighs m k = rw (entries_out m k) (rw (get-entries m k) (out_weighs k (entries m)))

none_of : {A : Type 0} (es : List A) → 0 ≡ length es → es ≡ []
none_of [] h = refl
none_of (e ∷ es) h = absurd (omega (arith, h))

pub empty_weighs : {K X : Type 0} (R : K → K → Ordering) (f : K → X → ℕ) → weighs f (entries (empty {X = X} {R = R})) ≡ 0
empty_weighs {X = X} R f = ap (weighs f) (none_of (entries (empty {X = X} {R = R})) (sym (len-empty R X) ∙ len-entries (empty {X = X} {R = R})))
