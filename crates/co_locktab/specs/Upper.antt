-- The order of ranges by their upper bounds.
use Rattle.std.specs.Ordering.{on, then_cmp, flip_args}
use Rattle.std.specs.declared.cmp.Ordering.{Ordering}
use Rattle.co_base.specs.Order.{key_cmp}
use Rattle.co_locktab.specs.declared.place.ByUpper.{ByUpper}

-- the greatest upper bound first, and then the greatest lower one
abbrev pub upper_cmp : ByUpper → ByUpper → Ordering
upper_cmp = flip_args (then_cmp (on (λ r. r.range.hi) key_cmp) (on (λ r. r.range.lo) key_cmp))
