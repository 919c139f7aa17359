-- A range of keys, as contracts see it.
use Rattle.std.specs.Prelude.{ℕ, List, Bool, ◌&&◌, not}
use Rattle.std.specs.Ordering.{is_gt, on, then_cmp}
use Rattle.std.specs.declared.cmp.Ordering.{Ordering}
use Rattle.co_base.specs.Order.{key_cmp}

-- the keys from `lo` to `hi`, both included
pub record Span : Type 0 where
  pub lo : List ℕ
  pub hi : List ℕ

-- whether the key is one of them
abbrev pub span_has : Span → List ℕ → Bool
span_has span key = not (is_gt (key_cmp span.lo key)) && not (is_gt (key_cmp key span.hi))

-- the one key alone
abbrev pub span_of_key : List ℕ → Span
span_of_key key = record { lo = key; hi = key }

-- by the lower bound, then by the upper one
abbrev pub span_cmp : Span → Span → Ordering
span_cmp = then_cmp (on (λ s. s.lo) key_cmp) (on (λ s. s.hi) key_cmp)
