-- Rows of entries: they keep the order of the keys, and the rows of a range.
use Rattle.co_base.specs.declared.row.Row.{Row}
use Rattle.std.proofs.Common.{◌≡◌, ℕ, List, [], ◌∷◌, ◌++◌, map, arith, append-nil, refl, sym, ap, subst}
use Rattle.std.specs.List.Sorted.{IsStrictlySortedBy}
use Rattle.std.specs.Map.{keys_of}
use Rattle.co_base.proofs.Ordered.{sorted_none}
use Rattle.std.specs.FinMap.{empty, from_entries, slice_cmp-IsAntisymmetric, nat_cmp-IsAntisymmetric}
use Rattle.std.proofs.lemmas.Cmp.{nat_list_cmp_total}
use Rattle.co_base.specs.Order.{key_cmp}
use Rattle.co_base.specs.RowOrder.{IsInKeyOrder}
use Rattle.co_serial.specs.Records.{row_of, all_rows}
use Rattle.co_serial.proofs.MapViews.{view-entries}

keys-rows : (es : List (List ℕ × List ℕ)) → map (λ r. r.key) (map row_of es) ≡ keys_of es
keys-rows [] = refl
keys-rows (e ∷ es) = ap (λ ks. e.0 ∷ ks) (keys-rows es)

pub rows-in_order : (es : List (List ℕ × List ℕ)) → IsStrictlySortedBy key_cmp (keys_of es) → IsInKeyOrder (map row_of es)
rows-in_order es h = subst (IsStrictlySortedBy key_cmp) (sym (keys-rows es)) h

pub all_rows-view : (es : List (List ℕ × List ℕ)) → IsStrictlySortedBy key_cmp (keys_of es) → all_rows (from_entries es) ≡ map row_of es
all_rows-view es h = ap (map row_of) (view-entries nat_list_cmp_total (slice_cmp-IsAntisymmetric nat_cmp-IsAntisymmetric) es h)

-- the rows made so far are all of them, once no entry is left
pub made_all : (rows : List Row) (es left : List (List ℕ × List ℕ)) → rows ++ map row_of left ≡ map row_of es → left ≡ [] → rows ≡ map row_of es
made_all rows es left h e = let h2 : rows ++ [] ≡ map row_of es = subst (λ l. rows ++ map row_of l ≡ map row_of es) e h in grind (arith, append-nil rows, h2)

pub all_rows-empty : all_rows empty ≡ []
all_rows-empty = all_rows-view [] (sorted_none key_cmp)
