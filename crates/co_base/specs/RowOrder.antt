-- Records and changes in the order of their keys.
use Rattle.std.specs.Prelude.{List, map}
use Rattle.std.specs.List.Sorted.{IsStrictlySortedBy}
use Rattle.co_base.specs.declared.row.Row.{Row}
use Rattle.co_base.specs.declared.written.Written.{Written}
use Rattle.co_base.specs.Order.{key_cmp}

-- each key is above the one before it
abbrev pub IsInKeyOrder : List Row → Type 0
IsInKeyOrder rows = IsStrictlySortedBy key_cmp (map (λ r. r.key) rows)

-- changes in strictly ascending order of key
abbrev pub AreInKeyOrder : List Written → Type 0
AreInKeyOrder writes = IsStrictlySortedBy key_cmp (map (λ w. w.key) writes)
