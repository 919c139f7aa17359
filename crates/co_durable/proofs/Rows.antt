-- The rows of records, and sets of numbers, as they are told and made again.
use Rattle.std.proofs.Common.{◌≡◌, ℕ, Bool, true, false, cond, ◌||◌, List, [], ◌∷◌, map, Option, None, Some, refl, sym, ap, ◌∙◌}
use Rattle.std.specs.Option.{is_some}
use Rattle.std.specs.List.{list_any}
use Rattle.std.specs.Ordering.{nat_cmp, eq_by_cmp}
use Rattle.std.specs.Cmp.{nat_cmp_total}
use Rattle.std.specs.FinMap.{entries, keys, get, insert, from_entries, get-entries, get-empty, get-insert, get-from_entries, contains_key-keys, same_map, slice_cmp-IsAntisymmetric, nat_cmp-IsAntisymmetric}
use Rattle.std.proofs.lemmas.Cmp.{nat_list_cmp_total}
use Rattle.co_serial.specs.Records.{Records, row_of, all_rows}
use Rattle.co_state.specs.Effects.{records_from}
use Rattle.co_state.specs.Table.{no_entries}
use Rattle.co_plain.specs.MemberView.{Numbers, with_number, with_numbers, numbers_from}

from_rows : (es : List (List ℕ × List ℕ)) → records_from (map row_of es) ≡ from_entries es
from_rows [] = refl
from_rows (e ∷ es) = ap (λ m. insert m e.0 e.1) (from_rows es)

-- the rows of records give the records
pub records_again : (records : Records) → records_from (all_rows records) ≡ records
records_again records =
    from_rows (entries records)
    ∙ same_map nat_list_cmp_total (slice_cmp-IsAntisymmetric nat_cmp-IsAntisymmetric) _ _ (λ q. get-from_entries nat_list_cmp_total (entries records) q ∙ sym (get-entries records q))

either : {A : Type 0} (a b : Bool) (x y : A) → cond b x (cond a x y) ≡ cond (a || b) x y
either true true x y = refl
either true false x y = refl
either false true x y = refl
either false false x y = refl

laid : (ts : List ℕ) (n : Numbers) (q : ℕ) → get (with_numbers n ts) q ≡ cond (list_any (eq_by_cmp nat_cmp q) ts) (Some tt) (get n q)
laid [] n q = refl
laid (t ∷ ts) n q =
    laid ts (with_number n t) q ∙ ap (cond (list_any (eq_by_cmp nat_cmp q) ts) (Some tt)) (get-insert nat_cmp_total n t tt q)
    ∙ either (eq_by_cmp nat_cmp q t) (list_any (eq_by_cmp nat_cmp q) ts) (Some tt) (get n q)

only_there : (o : Option (Unit {0})) → cond (is_some o) (Some tt) None ≡ o
only_there None = refl
only_there (Some x) = refl

-- the numbers of a set give the set
pub numbers_again : (numbers : Numbers) → numbers_from (keys numbers) ≡ numbers
numbers_again numbers = same_map nat_cmp_total nat_cmp-IsAntisymmetric _ _
    (λ q. laid (keys numbers) no_entries q ∙ ap (cond (list_any (eq_by_cmp nat_cmp q) (keys numbers)) (Some tt)) (get-empty nat_cmp q)
    ∙ ap (λ b. cond b (Some tt) None) (sym (contains_key-keys numbers q)) ∙ only_there (get numbers q))
