-- The keys of a finite map ascend.
use Rattle.std.proofs.Common.{◌≡◌, ℕ, Bool, true, false, ◌&&◌, T, List, [], ◌∷◌, map, refl}
use Rattle.std.specs.Ordering.{nat_cmp, is_lt}
use Rattle.std.specs.declared.cmp.Ordering.{Ordering}
use Rattle.std.specs.declared.cmp.Ordering.TheVariants.{Less, Equal, Greater}
use Rattle.std.specs.FinMap.{FinMap, entries, entries_sorted}
use Rattle.std.specs.FinMap.Entries.{is_sorted, below_all}
use Rattle.std.specs.List.{AllByRecursion}
use Rattle.std.specs.List.Sorted.{IsStrictlySortedBy}
use Rattle.co_base.specs.Order.{IsAscending}

less_of : (o : Ordering) → T (is_lt o) → o ≡ Less
less_of Less h = refl
less_of Equal h = absurd h
less_of Greater h = absurd h

left_of : (a b : Bool) → T (a && b) → T a
left_of true b h = tt
left_of false b h = h

right_of : (a b : Bool) → T (a && b) → T b
right_of true b h = h
right_of false b h = absurd h

below_each : {X : Type 0} (k : ℕ) (es : List (ℕ × X)) → T (below_all nat_cmp k es) → AllByRecursion (λ y. nat_cmp k y ≡ Less) (map (λ e. e.0) es)
below_each k [] h = tt
below_each k (e ∷ es) h =
    (less_of (nat_cmp k e.0) (left_of (is_lt (nat_cmp k e.0)) _ h), below_each k es (right_of (is_lt (nat_cmp k e.0)) _ h))

sorted_keys : {X : Type 0} (es : List (ℕ × X)) → T (is_sorted nat_cmp es) → IsStrictlySortedBy nat_cmp (map (λ e. e.0) es)
unfolding IsStrictlySortedBy
sorted_keys [] h = tt
sorted_keys (e ∷ es) h = (below_each e.0 es (left_of _ _ h), sorted_keys es (right_of _ _ h))

-- the numbers of a table ascend
pub keys_ascend : {X : Type 0} (table : FinMap nat_cmp X) → IsAscending (map (λ e. e.0) (entries table))
keys_ascend table = sorted_keys (entries table) (entries_sorted table)
