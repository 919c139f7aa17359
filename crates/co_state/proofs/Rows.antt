-- Records that are laid in row by row, from the last row on.
use Rattle.std.proofs.Common.{◌≡◌, ℕ, ◌-◌, nat_lt, List, [], ◌∷◌, ◌++◌, length, take, drop, reverse, map, refl, sym, ap, ◌∙◌, if◌then◌else◌, arith, suc, true, false, length-drop}
use Rattle.std.proofs.lemmas.Bool.Decides.{nat_tests}
use Rattle.std.specs.FinMap.{empty, entries, insert, from_entries, get-entries, get-from_entries, same_map, slice_cmp-IsAntisymmetric, nat_cmp-IsAntisymmetric}
use Rattle.std.proofs.lemmas.Cmp.{nat_list_cmp_total}
use Rattle.std.proofs.lemmas.List.{drop_at, drop_all, reverse-append, length-reverse, take-append-drop}
use Rattle.co_base.specs.declared.row.Row.{Row}
use Rattle.co_serial.specs.Records.{Records, row_of, all_rows}
use Rattle.co_state.specs.declared.engine_state.Install.{Install}
use Rattle.co_state.specs.Effects.{records_from}
use Rattle.co_state.specs.EngineState.{records_now, records_at}

-- rows laid over records, the last one first
abbrev pub laid_under : List Row → Records → Records
laid_under [] records = records
laid_under (r ∷ rs) records = insert (laid_under rs records) r.key r.value

pub laid_under-push : (rs : List Row) (r : Row) (records : Records) → laid_under (rs ++ r ∷ []) records ≡ laid_under rs (insert records r.key r.value)
laid_under-push [] r records = refl
laid_under-push (s ∷ rs) r records = ap (λ m. insert m s.key s.value) (laid_under-push rs r records)

pub laid_under-empty : (rs : List Row) → laid_under rs empty ≡ records_from rs
laid_under-empty [] = refl
laid_under-empty (r ∷ rs) = ap (λ m. insert m r.key r.value) (laid_under-empty rs)

from-rows : (es : List (List ℕ × List ℕ)) → records_from (map row_of es) ≡ from_entries es
from-rows [] = refl
from-rows (e ∷ es) = ap (λ m. insert m e.0 e.1) (from-rows es)

-- the rows of records give the records
pub records_from-rows : (records : Records) → records_from (all_rows records) ≡ records
records_from-rows records =
    from-rows (entries records)
    ∙ same_map nat_list_cmp_total (slice_cmp-IsAntisymmetric nat_cmp-IsAntisymmetric) _ _ (λ q. get-from_entries nat_list_cmp_total (entries records) q ∙ sym (get-entries records q))

within : (is : List Install) (i : Install) (count : ℕ) (base : Records) → nat_lt (length is) count ≡ true → records_now base (i ∷ is) ≡ records_now base (drop (suc (length is) - count) (i ∷ is))
within is i count base h = let e : 0 ≡ suc (length is) - count = grind (arith, nat_tests, h) in ap (λ n. records_now base (drop n (i ∷ is))) e

beyond : (is : List Install) (i : Install) (count : ℕ) (base : Records) → nat_lt (length is) count ≡ false → records_now base (drop (length is - count) is) ≡ records_now base (drop (suc (length is) - count) (i ∷ is))
beyond is i count base h = let e : suc (length is - count) ≡ suc (length is) - count = grind (arith, nat_tests, h) in ap (λ n. records_now base (drop n (i ∷ is))) e

records_at-drop : (base : Records) (is : List Install) (count : ℕ) → records_at base is count ≡ records_now base (drop (length is - count) is)
records_at-drop base [] count = ap (records_now base) (sym (drop_all (0 - count) [] (omega arith)))
records_at-drop base (i ∷ is) count =
    elim (nat_lt (length is) count)
    as (λ b. nat_lt (length is) count ≡ b → (if b then records_now base (i ∷ is) else records_at base is count) ≡ records_now base (drop (suc (length is) - count) (i ∷ is)))
    [ true ↦ λ h. within is i count base h | false ↦ λ h. records_at-drop base is count ∙ beyond is i count base h ] refl

reverse-take : {A : Type 0} (xs : List A) (n : ℕ) → reverse (take n xs) ≡ drop (length xs - n) (reverse xs)
reverse-take xs n =
    let e : reverse xs ≡ reverse (drop n xs) ++ reverse (take n xs) = ap reverse (sym (take-append-drop n xs)) ∙ reverse-append (take n xs) (drop n xs) in
    let l : length (reverse (drop n xs)) ≡ length xs - n = length-reverse (drop n xs) ∙ length-drop n xs in
    sym (ap (drop (length xs - n)) e ∙ drop_at (reverse (drop n xs)) (reverse (take n xs)) (length xs - n) l)

-- the first so many installs, where they stand oldest first
pub records_at-take : (base : Records) (xs : List Install) (count : ℕ) → records_now base (reverse (take count xs)) ≡ records_at base (reverse xs) count
records_at-take base xs count =
    ap (records_now base) (reverse-take xs count) ∙ ap (λ n. records_now base (drop (n - count) (reverse xs))) (sym (length-reverse xs)) ∙ sym (records_at-drop base (reverse xs) count)
