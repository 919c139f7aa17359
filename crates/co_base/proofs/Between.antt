-- The entries between two keys, both included.
use Rattle.std.proofs.Common.{◌≡◌, ℕ, not, ◌&&◌, List, filter, refl, sym, ap, ◌∙◌}
use Rattle.std.specs.Ordering.{is_lt, is_le, is_gt, ordering_reverse}
use Rattle.std.specs.declared.cmp.Ordering.{Ordering}
use Rattle.std.specs.declared.cmp.Ordering.TheVariants.{Less, Equal, Greater}
use Rattle.std.specs.declared.ops.Bound.TheVariants.{Included}
use Rattle.std.specs.BTreeMap.Range.{entries_between, range_contains}
use Rattle.std.proofs.lemmas.Cmp.{nat_list_cmp_total}
use Rattle.co_base.specs.Order.{key_cmp}
use Rattle.co_base.specs.Span.{span_has}

from_low : (r : Ordering) → is_le r ≡ not (is_gt r)
from_low Less = refl
from_low Equal = refl
from_low Greater = refl

reversed : (r : Ordering) → is_lt r ≡ is_gt (ordering_reverse r)
reversed Less = refl
reversed Equal = refl
reversed Greater = refl

within : (lo hi q : List ℕ) → range_contains key_cmp (Included lo) (Included hi) q ≡ span_has (record { lo = lo; hi = hi }) q
within lo hi q = λ i. from_low (key_cmp lo q) i && not ((reversed (key_cmp hi q) ∙ ap is_gt (sym (nat_list_cmp_total.antisymm q hi))) i)

pub between_span : {X : Type 0} (lo hi : List ℕ) (es : List (List ℕ × X)) → entries_between key_cmp (Included lo) (Included hi) es ≡ filter (λ e. span_has (record { lo = lo; hi = hi }) e.0) es
between_span lo hi es = λ i. filter (λ e. within lo hi e.0 i) es
