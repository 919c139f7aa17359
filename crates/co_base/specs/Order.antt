-- The orders of numbers, keys and ranges, and lists that ascend by them.
use Rattle.std.specs.Prelude.{ℕ, List}
use Rattle.std.specs.Ordering.{nat_cmp}
use Rattle.std.specs.Cmp.Lexicographic.{slice_cmp}
use Rattle.std.specs.declared.cmp.Ordering.{Ordering}
use Rattle.std.specs.List.Sorted.{IsStrictlySortedBy}

-- keys are ordered by their bytes
abbrev pub key_cmp : List ℕ → List ℕ → Ordering
key_cmp = slice_cmp nat_cmp

-- numbers, each above the one before it
abbrev pub IsAscending : List ℕ → Type 0
IsAscending = IsStrictlySortedBy nat_cmp
