-- Short lists are in order.
use Rattle.std.proofs.Common.{◌≡◌, List, [], ◌∷◌, subst, sym}
use Rattle.std.specs.List.Sorted.{IsStrictlySortedBy}
use Rattle.std.specs.declared.cmp.Ordering.{Ordering}
use Rattle.std.specs.declared.cmp.Ordering.TheVariants.{Less}

pub none_sorted : {K : Type 0} (c : K → K → Ordering) (ks : List K) → ks ≡ [] → IsStrictlySortedBy c ks
unfolding IsStrictlySortedBy
none_sorted c ks e = subst (IsStrictlySortedBy c) (sym e) tt

pub one_sorted : {K : Type 0} (c : K → K → Ordering) (k : K) → IsStrictlySortedBy c (k ∷ [])
unfolding IsStrictlySortedBy
one_sorted c k = (tt, tt)

pub two_sorted : {K : Type 0} (c : K → K → Ordering) (j k : K) → c j k ≡ Less → IsStrictlySortedBy c (j ∷ k ∷ [])
unfolding IsStrictlySortedBy
two_sorted c j k less = ((less, tt), (tt, tt))
