-- Entries that are made of others.
use Rattle.std.proofs.Common.{◌≡◌, T, ℕ, Bool, true, false, cond, ◌&&◌, List, [], ◌∷◌, Option, Some, refl, sym, ap, ◌∙◌, subst}
use Rattle.std.specs.Option.{option_map}
use Rattle.std.specs.Ordering.{nat_cmp, eq_by_cmp, is_lt}
use Rattle.std.specs.Cmp.{nat_cmp_total}
use Rattle.std.specs.FinMap.{entries, entries_sorted, get-entries, nat_cmp-IsAntisymmetric}
use Rattle.std.specs.FinMap.Entries.{find, below_all, is_sorted, same_entries}
use Rattle.co_state.specs.Table.{Table, look}

-- entries of which something else is told
abbrev pub mapped : {X Y : Type 0} → (X → Y) → List (ℕ × X) → List (ℕ × Y)
mapped f [] = []
mapped f (e ∷ es) = (e.0, f e.1) ∷ mapped f es

module _ {X Y : Type 0} (f : X → Y) where
  below-mapped : (k : ℕ) (es : List (ℕ × X)) → below_all nat_cmp k (mapped f es) ≡ below_all nat_cmp k es
  below-mapped k [] = refl
  below-mapped k (e ∷ es) = ap (λ b. is_lt (nat_cmp k e.0) && b) (below-mapped k es)

  sorted-mapped : (es : List (ℕ × X)) → is_sorted nat_cmp (mapped f es) ≡ is_sorted nat_cmp es
  sorted-mapped [] = refl
  sorted-mapped (e ∷ es) = (λ i. below-mapped e.0 es i && sorted-mapped es i)

  map-cond : (b : Bool) (x : X) (o : Option X) (p : Option Y) → p ≡ option_map f o → cond b (Some (f x)) p ≡ option_map f (cond b (Some x) o)
  map-cond true x o p e = refl
  map-cond false x o p e = e

  find-mapped : (q : ℕ) (es : List (ℕ × X)) → find nat_cmp q (mapped f es) ≡ option_map f (find nat_cmp q es)
  find-mapped q [] = refl
  find-mapped q (e ∷ es) = map-cond (eq_by_cmp nat_cmp q e.0) e.1 (find nat_cmp q es) (find nat_cmp q (mapped f es)) (find-mapped q es)

  pub table-mapped : (m : Table Y) (n : Table X) → ((q : ℕ) → look m q ≡ option_map f (look n q)) → entries m ≡ mapped f (entries n)
  table-mapped m n is =
      same_entries nat_cmp nat_cmp_total nat_cmp-IsAntisymmetric (entries m) (mapped f (entries n)) (entries_sorted m) (subst T (sym (sorted-mapped (entries n))) (entries_sorted n))
      (λ q. sym (get-entries m q) ∙ is q ∙ ap (option_map f) (get-entries n q) ∙ sym (find-mapped q (entries n)))
