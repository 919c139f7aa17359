-- A `BTreeMap` seen as the finite map of its entries.
use Rattle.std.proofs.Common.{◌≡◌, true, cond, ◌&&◌, T, List, [], ◌∷◌, None, Some, refl, sym, ap, ◌∙◌, subst}
use Rattle.std.specs.declared.cmp.Ordering.{Ordering}
use Rattle.std.specs.declared.cmp.Ordering.TheVariants.{Less}
use Rattle.std.specs.Ordering.{is_eq, is_lt, eq_by_cmp}
use Rattle.std.specs.Cmp.{IsTotalOrder, eq_by_cmp_equiv}
use Rattle.std.specs.List.Sorted.{IsStrictlySortedBy}
use Rattle.std.specs.Map.{lookup, keys_of}
use Rattle.std.specs.BTreeMap.{is_at}
use Rattle.std.specs.FinMap.{IsAntisymmetric, get, insert, remove, entries, from_entries, from_sorted, same_map, get-insert, get-remove, get-from_entries, get-from_sorted, entries-from_sorted}
use Rattle.std.specs.FinMap.Entries.{find, is_sorted, below_all}
use Rattle.std.specs.List.{AllByRecursion}

module _ {K X : Type 0} (R : K → K → Ordering) where
  pub find-lookup : (es : List (K × X)) (q : K) → find R q es ≡ lookup (is_at (R q)) es
  find-lookup [] q = refl
  find-lookup (e ∷ es) q = ap (cond (is_eq (R q e.0)) (Some e.1)) (find-lookup es q)

  below-entries : (k : K) (es : List (K × X)) → AllByRecursion (λ y. R k y ≡ Less) (keys_of es) → below_all R k es ≡ true
  below-entries k [] h = refl
  below-entries k (e ∷ es) h = (λ i. is_lt (h.0 i) && below-entries k es h.1 i)

  sorted-entries : (es : List (K × X)) → IsStrictlySortedBy R (keys_of es) → is_sorted R es ≡ true
  unfolding IsStrictlySortedBy
  sorted-entries [] h = refl
  sorted-entries (e ∷ es) h = (λ i. below-entries e.0 es h.0 i && sorted-entries es h.1 i)

module _ {K X : Type 0} {R : K → K → Ordering} (o : IsTotalOrder R) where
  pub view-get : (es : List (K × X)) (q : K) → get (from_entries {R = R} es) q ≡ lookup (is_at (R q)) es
  view-get es q = get-from_entries o es q ∙ find-lookup R es q

  pub view-insert : IsAntisymmetric R → (es fs : List (K × X)) (k : K) (v : X) → ((q : K) → lookup (is_at (R q)) fs ≡ cond (is_at (R k) q) (Some v) (lookup (is_at (R q)) es)) → from_entries {R = R} fs ≡ insert (from_entries es) k v
  view-insert same es fs k v is =
      same_map o same _ _ (λ q. view-get fs q ∙ is q ∙ ap (λ b. cond b (Some v) (lookup (is_at (R q)) es)) ((eq_by_cmp_equiv o).symm k q)
      ∙ ap (cond (eq_by_cmp R q k) (Some v)) (sym (view-get es q)) ∙ sym (get-insert o (from_entries es) k v q))

  pub view-remove : IsAntisymmetric R → (es fs : List (K × X)) (k : K) → ((q : K) → lookup (is_at (R q)) fs ≡ cond (is_at (R k) q) None (lookup (is_at (R q)) es)) → from_entries {R = R} fs ≡ remove (from_entries es) k
  view-remove same es fs k is =
      same_map o same _ _ (λ q. view-get fs q ∙ is q ∙ ap (λ b. cond b None (lookup (is_at (R q)) es)) ((eq_by_cmp_equiv o).symm k q)
      ∙ ap (cond (eq_by_cmp R q k) None) (sym (view-get es q)) ∙ sym (get-remove o (from_entries es) k q))

  pub view-entries : IsAntisymmetric R → (es : List (K × X)) → IsStrictlySortedBy R (keys_of es) → entries (from_entries {R = R} es) ≡ es
  view-entries same es h =
      let t : T (is_sorted R es) = subst T (sym (sorted-entries R es h)) tt in
      ap entries (same_map o same _ (from_sorted es) (λ q. get-from_entries o es q ∙ sym (get-from_sorted R es q t))) ∙ entries-from_sorted R es t
