-- Lists in order, and keys that tie with themselves.
use Rattle.std.proofs.Common.{◌≡◌, ℕ, List, [], false, ap}
use Rattle.std.specs.List.Sorted.{IsStrictlySortedBy}
use Rattle.std.specs.declared.cmp.Ordering.{Ordering}
use Rattle.std.specs.Ordering.{is_gt}
use Rattle.std.proofs.lemmas.Cmp.{nat_list_cmp_total, tied_itself, then_total, on_total}
use Rattle.std.specs.Cmp.{IsTotalOrder}
use Rattle.co_base.specs.Order.{key_cmp}
use Rattle.co_base.specs.Span.{span_cmp}

-- no elements are in order
pub sorted_none : {K : Type 0} (c : K → K → Ordering) → IsStrictlySortedBy c []
unfolding IsStrictlySortedBy
sorted_none c = tt

-- no key is above itself
pub not_above_itself : (key : List ℕ) → is_gt (key_cmp key key) ≡ false
not_above_itself key = ap is_gt (tied_itself nat_list_cmp_total key)

-- ranges are totally ordered
pub span_total : IsTotalOrder span_cmp
span_total = then_total (on_total (λ s. s.lo) nat_list_cmp_total) (on_total (λ s. s.hi) nat_list_cmp_total)
