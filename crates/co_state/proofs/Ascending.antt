-- Rows in the order of their keys, and the records that they give.
use Rattle.std.proofs.Common.{◌≡◌, T, ℕ, zero, suc, ◌+◌, ◌<◌, ◌≤◌, Bool, true, false, not, List, [], ◌∷◌, ◌++◌, map, take, drop, set, length, get_or, cond, ◌⊎◌, inl, inr, Some, None, ◌-◌, refl, sym, ap, ◌∙◌, subst, arith}
use Rattle.std.specs.List.{AllByRecursion, HoldsAt}
use Rattle.std.specs.List.Sorted.{IsStrictlySortedBy, IsNonDecreasingBy, IsPartitionPoint}
use Rattle.std.specs.Map.{keys_of}
use Rattle.std.specs.Ordering.{is_eq, is_lt, ordering_reverse, ordering_index}
use Rattle.std.specs.declared.cmp.Ordering.{Ordering}
use Rattle.std.specs.declared.cmp.Ordering.TheVariants.{Less, Equal, Greater}
use Rattle.std.specs.FinMap.{insert, remove, from_entries, get-from_entries, get-insert, get-remove, same_map, slice_cmp-IsAntisymmetric, nat_cmp-IsAntisymmetric}
use Rattle.std.specs.FinMap.Entries.{by_order, find, put, where_key, below_all, is_sorted, find-put, find-where_key, is_sorted-put, is_sorted-where_key}
use Rattle.std.proofs.lemmas.Cmp.{nat_list_cmp_total}
use Rattle.std.proofs.lemmas.Bool.{cases_lt}
use Rattle.std.proofs.lemmas.List.Sorted.{searchable_from_sorted}
use Rattle.co_base.specs.Order.{key_cmp}
use Rattle.co_base.specs.RowOrder.{IsInKeyOrder}
use Rattle.co_base.specs.declared.row.Row.{Row}
use Rattle.co_serial.specs.Records.{Records, row_of, all_rows}
use Rattle.co_serial.proofs.MapViews.{view-entries}
use Rattle.co_state.specs.Effects.{records_from}
use Rattle.co_state.proofs.Ties.{both, first, second, less, key_ties, key_ties-swap}

abbrev entries_in : List Row → List (List ℕ × List ℕ)
entries_in rows = map (λ r. (r.key, r.value)) rows

from-rows : (rows : List Row) → records_from rows ≡ from_entries (entries_in rows)
from-rows [] = refl
from-rows (r ∷ rs) = ap (λ m. insert m r.key r.value) (from-rows rs)

keys-in : (rows : List Row) → keys_of (entries_in rows) ≡ map (λ r. r.key) rows
keys-in [] = refl
keys-in (r ∷ rs) = ap (λ ks. r.key ∷ ks) (keys-in rs)

rows-in : (rows : List Row) → map row_of (entries_in rows) ≡ rows
rows-in [] = refl
rows-in (r ∷ rs) = ap (λ more. r ∷ more) (rows-in rs)

same : (p q : List ℕ) → key_cmp p q ≡ Equal → p ≡ q
same = slice_cmp-IsAntisymmetric nat_cmp-IsAntisymmetric

-- rows in order are all rows of the records that they give
pub all_rows-from : (rows : List Row) → IsInKeyOrder rows → all_rows (records_from rows) ≡ rows
all_rows-from rows h =
    ap all_rows (from-rows rows)
    ∙ ap (map row_of) (view-entries nat_list_cmp_total same (entries_in rows) (subst (IsStrictlySortedBy key_cmp) (sym (keys-in rows)) h))
    ∙ rows-in rows

-- ---- the order of rows, as that of their entries
below_rows : (k : List ℕ) (rows : List Row) → AllByRecursion (λ q. key_cmp k q ≡ Less) (map (λ r. r.key) rows) → T (below_all key_cmp k (entries_in rows))
below_rows k [] h = tt
below_rows k (r ∷ rs) h = both _ _ (subst (λ o. T (is_lt o)) (sym h.0) tt) (below_rows k rs h.1)

rows_above : (k : List ℕ) (rows : List Row) → T (below_all key_cmp k (entries_in rows)) → AllByRecursion (λ q. key_cmp k q ≡ Less) (map (λ r. r.key) rows)
rows_above k [] h = tt
rows_above k (r ∷ rs) h = (less _ (first _ _ h), rows_above k rs (second _ _ h))

entries_ascend : (rows : List Row) → IsInKeyOrder rows → T (is_sorted key_cmp (entries_in rows))
unfolding IsStrictlySortedBy
entries_ascend [] h = tt
entries_ascend (r ∷ rs) h = both _ _ (below_rows r.key rs h.0) (entries_ascend rs h.1)

rows_ascend : (rows : List Row) → T (is_sorted key_cmp (entries_in rows)) → IsInKeyOrder rows
unfolding IsStrictlySortedBy
rows_ascend [] h = tt
rows_ascend (r ∷ rs) h = (rows_above r.key rs (first _ _ h), rows_ascend rs (second _ _ h))

-- ---- a search
above_first : (k : List ℕ) (rows : List Row) (i : ℕ) (d : Row) → AllByRecursion (λ q. key_cmp k q ≡ Less) (map (λ r. r.key) rows) → i < length rows → key_cmp k (get_or rows i d).key ≡ Less
above_first k [] i d h l = absurd (omega arith)
above_first k (r ∷ rs) zero d h l = h.0
above_first k (r ∷ rs) (suc i) d h l = above_first k rs i d h.1 (omega arith)

turned : (p q : List ℕ) (r : Ordering) → key_cmp p q ≡ r → key_cmp q p ≡ ordering_reverse r
turned p q r e = nat_list_cmp_total.antisymm q p ∙ ap ordering_reverse e

no_fall : (rows : List Row) → IsInKeyOrder rows → (k : ℕ) (d : Row) → k + 1 < length rows → is_lt (key_cmp (get_or rows (k + 1) d).key (get_or rows k d).key) ≡ false
unfolding IsStrictlySortedBy
no_fall [] h k d l = absurd (omega arith)
no_fall (r ∷ rs) h zero d l = ap is_lt (turned r.key (get_or rs 0 d).key Less (above_first r.key rs 0 d h.0 (omega arith)))
no_fall (r ∷ rs) h (suc k) d l =
    let e : suc (k + 1) ≡ suc k + 1 = omega arith in
    subst (λ n. is_lt (key_cmp (get_or (r ∷ rs) n d).key (get_or rs k d).key) ≡ false) e (no_fall rs h.1 k d (omega arith))

-- the comparisons with a key rise along the rows
rises : (rows : List Row) (key : List ℕ) → IsInKeyOrder rows → IsNonDecreasingBy (λ r. ordering_index (key_cmp r.key key)) rows
rises rows key h = searchable_from_sorted nat_list_cmp_total (λ r. r.key) rows key (λ k d a b. no_fall rows h k d b)

bottom : (r : Ordering) → ordering_index r ≤ 0 → r ≡ Less
bottom Less h = refl
bottom Equal h = absurd (omega arith)
bottom Greater h = absurd (omega arith)

-- where the last key is below a key, all are
pub end_found : (rows : List Row) (last : Row) (key : List ℕ) → 0 < length rows → HoldsAt (λ r. last ≡ r) rows (length rows - 1) → true ≡ is_lt (key_cmp last.key key)
    → IsNonDecreasingBy (λ r. ordering_index (key_cmp r.key key)) rows → IsPartitionPoint (λ r. key_cmp r.key key ≡ Less) (λ r. key_cmp r.key key ≡ Greater) rows (length rows)
end_found rows last key some is e up = (
  λ k d a b.
      bottom _
      (subst (λ (o : Ordering). ordering_index (key_cmp (get_or rows k d).key key) ≤ ordering_index o)
      (ap (λ (r : Row). key_cmp r.key key) (sym (is d)) ∙ less _ (subst T e tt))
      (up k (length rows - 1) d (omega arith) (omega arith))),
  λ k d a b. absurd (omega arith),
)

-- ---- a record laid in
module _ (key value : List ℕ) where
  put_first : (r : Row) (rs : List Row) (o : Ordering) → key_cmp r.key key ≡ o
      → put key_cmp key value (entries_in (r ∷ rs)) ≡ by_order (ordering_reverse o) ((key, value) ∷ (r.key, r.value) ∷ entries_in rs) ((r.key, value) ∷ entries_in rs) ((r.key, r.value) ∷ put key_cmp key value (entries_in rs))
  put_first r rs o e = ap (λ o. by_order o ((key, value) ∷ (r.key, r.value) ∷ entries_in rs) ((r.key, value) ∷ entries_in rs) ((r.key, r.value) ∷ put key_cmp key value (entries_in rs))) (turned r.key key o e)

  put_gap : (rows : List Row) (i : ℕ) → IsPartitionPoint (λ r. key_cmp r.key key ≡ Less) (λ r. key_cmp r.key key ≡ Greater) rows i
      → entries_in (take i rows ++ record { key = key; value = value } ∷ drop i rows) ≡ put key_cmp key value (entries_in rows)
  put_gap [] zero h = refl
  put_gap [] (suc i) h = refl
  put_gap (r ∷ rs) zero h =
      sym (put_first r rs Greater (h.1 0 r (omega arith) (omega arith)))
  put_gap (r ∷ rs) (suc i) h =
      ap (λ es. (r.key, r.value) ∷ es) (put_gap rs i (λ k d a b. h.0 (suc k) d (omega arith) (omega arith), λ k d a b. h.1 (suc k) d (omega arith) (omega arith)))
      ∙ sym (put_first r rs Less (h.0 0 r (omega arith) (omega arith)))

  put_found : (rows : List Row) (i : ℕ) → IsInKeyOrder rows → i < length rows → HoldsAt (λ r. key_cmp r.key key ≡ Equal) rows i
      → entries_in (set rows i (record { key = key; value = value })) ≡ put key_cmp key value (entries_in rows)
  unfolding IsStrictlySortedBy
  put_found [] i h l e = absurd (omega arith)
  put_found (r ∷ rs) zero h l e =
      ap (λ k. (k, value) ∷ entries_in rs) (sym (same r.key key (e r)))
      ∙ sym (put_first r rs Equal (e r))
  put_found (r ∷ rs) (suc i) h l e =
      let below : key_cmp r.key key ≡ Less = subst (λ k. key_cmp r.key k ≡ Less) (same _ key (e r)) (above_first r.key rs i r h.0 (omega arith)) in
      ap (λ es. (r.key, r.value) ∷ es) (put_found rs i h.1 (omega arith) e)
      ∙ sym (put_first r rs Less below)

  order-put : (rows new : List Row) → IsInKeyOrder rows → entries_in new ≡ put key_cmp key value (entries_in rows) → IsInKeyOrder new
  order-put rows new h e = rows_ascend new (subst (λ es. T (is_sorted key_cmp es)) (sym e) (is_sorted-put key_cmp nat_list_cmp_total key value (entries_in rows) (entries_ascend rows h)))

  gives-put : (rows new : List Row) → entries_in new ≡ put key_cmp key value (entries_in rows) → records_from new ≡ insert (records_from rows) key value
  gives-put rows new e =
      from-rows new ∙ ap from_entries e
      ∙ same_map nat_list_cmp_total same _ _
      (λ q. get-from_entries nat_list_cmp_total (put key_cmp key value (entries_in rows)) q ∙ find-put key_cmp nat_list_cmp_total q key value (entries_in rows)
      ∙ sym (get-insert nat_list_cmp_total (from_entries (entries_in rows)) key value q ∙ ap (cond (key_ties q key) (Some value)) (get-from_entries nat_list_cmp_total (entries_in rows) q)))
      ∙ ap (λ m. insert m key value) (sym (from-rows rows))

-- ---- a record taken away
abbrev other : List ℕ → List ℕ → Bool
other key k = not (key_ties key k)

-- what is left of entries without those of a key
abbrev left : List ℕ → List (List ℕ × List ℕ) → List (List ℕ × List ℕ)
left key es = where_key key_cmp (other key) es

module _ (key : List ℕ) where
  left_first : (r : Row) (rs : List Row) (o : Ordering) → key_cmp r.key key ≡ o
      → left key (entries_in (r ∷ rs)) ≡ cond (not (is_eq (ordering_reverse o))) ((r.key, r.value) ∷ left key (entries_in rs)) (left key (entries_in rs))
  left_first r rs o e = ap (λ o. cond (not (is_eq o)) ((r.key, r.value) ∷ left key (entries_in rs)) (left key (entries_in rs))) (turned r.key key o e)

  left_alone : (rows : List Row) → ((i : ℕ) (d : Row) → i < length rows → key_ties key (get_or rows i d).key ≡ false) → left key (entries_in rows) ≡ entries_in rows
  left_alone [] h = refl
  left_alone (r ∷ rs) h =
      ap (λ b. cond (not b) ((r.key, r.value) ∷ left key (entries_in rs)) (left key (entries_in rs))) (h 0 r (omega arith))
      ∙ ap (λ es. (r.key, r.value) ∷ es) (left_alone rs (λ i d l. h (suc i) d (omega arith)))

  left_found : (rows : List Row) (i : ℕ) → IsInKeyOrder rows → i < length rows → HoldsAt (λ r. key_cmp r.key key ≡ Equal) rows i
      → entries_in (take i rows ++ drop (suc i) rows) ≡ left key (entries_in rows)
  unfolding IsStrictlySortedBy
  left_found [] i h l e = absurd (omega arith)
  left_found (r ∷ rs) zero h l e =
      sym (left_first r rs Equal (e r)
      ∙ left_alone rs (λ j d m. ap is_eq (subst (λ k. key_cmp k (get_or rs j d).key ≡ Less) (same r.key key (e r)) (above_first r.key rs j d h.0 m))))
  left_found (r ∷ rs) (suc i) h l e =
      let below : key_cmp r.key key ≡ Less = subst (λ k. key_cmp r.key k ≡ Less) (same _ key (e r)) (above_first r.key rs i r h.0 (omega arith)) in
      ap (λ es. (r.key, r.value) ∷ es) (left_found rs i h.1 (omega arith) e)
      ∙ sym (left_first r rs Less below)

  left_gap : (rows : List Row) (i : ℕ) → IsPartitionPoint (λ r. key_cmp r.key key ≡ Less) (λ r. key_cmp r.key key ≡ Greater) rows i → entries_in rows ≡ left key (entries_in rows)
  left_gap rows i h =
      sym (left_alone rows each)
    where
      each : (j : ℕ) (d : Row) → j < length rows → key_ties key (get_or rows j d).key ≡ false
      each j d l = by (cases_lt j i)
        where
          by : (j < i) ⊎ (i ≤ j) → key_ties key (get_or rows j d).key ≡ false
          by (inl a) = ap is_eq (turned _ key Less (h.0 j d (omega arith) a))
          by (inr a) = ap is_eq (turned _ key Greater (h.1 j d a l))

  order-left : (rows new : List Row) → IsInKeyOrder rows → entries_in new ≡ left key (entries_in rows) → IsInKeyOrder new
  order-left rows new h e = rows_ascend new (subst (λ es. T (is_sorted key_cmp es)) (sym e) (is_sorted-where_key key_cmp (other key) (entries_in rows) (entries_ascend rows h)))

  turned_cond : {A : Type 0} (b : Bool) (x y : A) → cond (not b) x y ≡ cond b y x
  turned_cond true x y = refl
  turned_cond false x y = refl

  gives-left : (rows new : List Row) → entries_in new ≡ left key (entries_in rows) → records_from new ≡ remove (records_from rows) key
  gives-left rows new e =
      from-rows new ∙ ap from_entries e
      ∙ same_map nat_list_cmp_total same _ _
      (λ q. get-from_entries nat_list_cmp_total (left key (entries_in rows)) q
      ∙ find-where_key key_cmp (other key) q (λ x t. ap (λ k. other key k) (sym (same q x t))) (entries_in rows)
      ∙ turned_cond (key_ties key q) _ _ ∙ ap (λ b. cond b None (find key_cmp q (entries_in rows))) (key_ties-swap key q)
      ∙ sym (get-remove nat_list_cmp_total (from_entries (entries_in rows)) key q ∙ ap (cond (key_ties q key) None) (get-from_entries nat_list_cmp_total (entries_in rows) q)))
      ∙ ap (λ m. remove m key) (sym (from-rows rows))

-- ---- rows that were changed, found by a search
pub record Gives (rows : List Row) (records : Records) : Type 0 where
  pub in_order : IsInKeyOrder rows
  pub gives : records_from rows ≡ records

module _ (key : List ℕ) (searched rows : List Row) (is : searched ≡ rows) (h : IsInKeyOrder rows) (i : ℕ) where
  at_rows : HoldsAt (λ r. key_cmp r.key key ≡ Equal) searched i → HoldsAt (λ r. key_cmp r.key key ≡ Equal) rows i
  at_rows at = subst (λ rs. HoldsAt (λ r. key_cmp r.key key ≡ Equal) rs i) is at

  abbrev IsGap : List Row → Type 0
  IsGap rs = IsPartitionPoint (λ r. key_cmp r.key key ≡ Less) (λ r. key_cmp r.key key ≡ Greater) rs i

  gap_rows : (IsNonDecreasingBy (λ r. ordering_index (key_cmp r.key key)) searched → IsGap searched) → IsGap rows
  gap_rows gap = subst IsGap is (gap (subst (λ rs. IsNonDecreasingBy (λ r. ordering_index (key_cmp r.key key)) rs) (sym is) (rises rows key h)))

  pub laid_found : (value : List ℕ) → i < length searched → HoldsAt (λ r. key_cmp r.key key ≡ Equal) searched i
      → Gives (set rows i (record { key = key; value = value })) (insert (records_from rows) key value)
  laid_found value l at =
      let e = put_found key value rows i h (subst (λ rs. i < length rs) is l) (at_rows at) in
      record { in_order = order-put key value rows _ h e; gives = gives-put key value rows _ e }

  pub laid_gap : (value : List ℕ) (new : List Row) → (IsNonDecreasingBy (λ r. ordering_index (key_cmp r.key key)) searched → IsGap searched)
      → new ≡ take i rows ++ record { key = key; value = value } ∷ drop i rows → Gives new (insert (records_from rows) key value)
  laid_gap value new gap made =
      let e = ap entries_in made ∙ put_gap key value rows i (gap_rows gap) in
      record { in_order = order-put key value rows new h e; gives = gives-put key value rows new e }

  pub taken_found : (new : List Row) → i < length searched → HoldsAt (λ r. key_cmp r.key key ≡ Equal) searched i → new ≡ take i rows ++ drop (suc i) rows → Gives new (remove (records_from rows) key)
  taken_found new l at made =
      let e = ap entries_in made ∙ left_found key rows i h (subst (λ rs. i < length rs) is l) (at_rows at) in
      record { in_order = order-left key rows new h e; gives = gives-left key rows new e }

  pub taken_gap : (IsNonDecreasingBy (λ r. ordering_index (key_cmp r.key key)) searched → IsGap searched) → records_from rows ≡ remove (records_from rows) key
  taken_gap gap = gives-left key rows rows (left_gap key rows i (gap_rows gap))
