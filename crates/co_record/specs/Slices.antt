-- Where the keys and the values of a record stand in its spelling: each begins behind its length.
use Rattle.std.specs.Prelude.{◌≡◌, ℕ, ◌+◌, List, [], ◌∷◌, ◌++◌, length, Option, Some, None}
use Rattle.std.specs.List.{flat_map, slice_range, AllByRecursion}
use Rattle.co_base.specs.Span.{Span}
use Rattle.co_base.specs.declared.row.Row.{Row}
use Rattle.co_base.specs.declared.written.Written.{Written}
use Rattle.co_record.specs.declared.record.Record.{Record}
use Rattle.co_record.specs.declared.record.Record.TheVariants.{Header, Prepare, Commit, Abort, End, Checkpoint}
use Rattle.co_record.specs.Spelling.{range_text, row_text, change_text}

-- a place, and the bytes that stand there
abbrev pub PlacedBytes : Type 0
PlacedBytes = ℕ × List ℕ

-- the bounds of ranges that are spelled from a place on
abbrev pub bounds_from : ℕ → List Span → List PlacedBytes
bounds_from at [] = []
bounds_from at (span ∷ spans) = (at + 1, span.lo) ∷ (at + length span.lo + 2, span.hi) ∷ bounds_from (at + length (range_text span)) spans

-- the keys and values of rows that are spelled from a place on
abbrev pub entries_from : ℕ → List Row → List PlacedBytes
entries_from at [] = []
entries_from at (row ∷ rows) = (at + 1, row.key) ∷ (at + length row.key + 3, row.value) ∷ entries_from (at + length (row_text row)) rows

-- a value, where there is one, and then others
abbrev pub held_then : ℕ → Option (List ℕ) → List PlacedBytes → List PlacedBytes
held_then at None more = more
held_then at (Some value) more = (at, value) ∷ more

-- the keys and values of changes that are spelled from a place on: a tag stands before a value
abbrev pub changes_from : ℕ → List Written → List PlacedBytes
changes_from at [] = []
changes_from at (w ∷ writes) = (at + 1, w.key) ∷ held_then (at + length w.key + 4) w.value (changes_from (at + length (change_text w)) writes)

-- the keys and values of a record, with their places
abbrev pub keys_and_values : Record → List PlacedBytes
keys_and_values (Header node generation) = []
keys_and_values (Prepare txn coord count reads writes) = bounds_from 10 reads ++ changes_from (12 + length (flat_map range_text reads)) writes
keys_and_values (Commit txn members) = []
keys_and_values (Abort txn) = []
keys_and_values (End txn) = []
keys_and_values (Checkpoint rows undos committed) = entries_from 5 rows ++ changes_from (9 + length (flat_map row_text rows)) undos

-- each of them is the source's slice at its span
abbrev pub AreSlicesOf : List ℕ → List PlacedBytes → Type 0
AreSlicesOf source parts = AllByRecursion (λ part. slice_range source part.0 (part.0 + length part.1) ≡ part.1) parts
