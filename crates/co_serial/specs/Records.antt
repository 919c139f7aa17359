-- The records of one member: a finite map from keys to values.
use Rattle.std.specs.Prelude.{ℕ, List, [], ◌∷◌, map, filter, Option, None, Some}
use Rattle.std.specs.FinMap.{FinMap, entries, insert, remove}
use Rattle.co_base.specs.Order.{key_cmp}
use Rattle.co_base.specs.Span.{Span, span_has}
use Rattle.co_base.specs.declared.row.Row.{Row}
use Rattle.co_base.specs.declared.written.Written.{Written}

abbrev pub Records : Type 0
Records = FinMap key_cmp (List ℕ)

-- one change: a value is laid in, and no value takes the record away
abbrev pub with_change : Records → List ℕ → Option (List ℕ) → Records
with_change records key None = remove records key
with_change records key (Some value) = insert records key value

-- changes laid in one after another, the first one first
abbrev pub with_changes : Records → List Written → Records
with_changes records [] = records
with_changes records (w ∷ ws) = with_changes (with_change records w.key w.value) ws

abbrev pub row_of : List ℕ × List ℕ → Row
row_of entry = record { key = entry.0; value = entry.1 }

-- every record, ascending by key
abbrev pub all_rows : Records → List Row
all_rows records = map row_of (entries records)

-- the records of a range, ascending by key
abbrev pub rows_within : Records → Span → List Row
rows_within records span = map row_of (filter (λ entry. span_has span entry.0) (entries records))
