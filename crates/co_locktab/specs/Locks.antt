-- Locks as plain data, and whom they block (strict two-phase locking, Bernstein, Hadzilacos and Goodman
-- 1987): a read waits for those that hold a key of its range for writing; a write waits for those that hold
-- its key for writing, or a range that has it for reading.
use Rattle.std.specs.Prelude.{ℕ, Bool, ◌≡◌, true, false, ◌≤◌, ◌||◌, ◌&&◌, not, ◌==◌, List, [], ◌∷◌, ◌++◌, if◌then◌else◌, Option, None, Some}
use Rattle.std.specs.List.{list_any}
use Rattle.std.specs.Ordering.{eq_by_cmp}
use Rattle.co_base.specs.Span.{Span, span_cmp, span_has}
use Rattle.co_state.specs.Keys.{same_key, reads_key}
use Rattle.co_state.specs.Table.{Table, no_entries, look, put, without}

-- what each transaction holds for reading and for writing
pub record Locks : Type 0 where
  pub reads : Table (List Span)
  pub writes : Table (List (List ℕ))

abbrev pub no_locks : Locks
no_locks = record { reads = no_entries; writes = no_entries }

abbrev pub or_none : {A : Type 0} → Option (List A) → List A
or_none None = []
or_none (Some xs) = xs

abbrev pub read_by : Locks → ℕ → List Span
read_by locks t = or_none (look locks.reads t)

abbrev pub written_by : Locks → ℕ → List (List ℕ)
written_by locks t = or_none (look locks.writes t)

abbrev pub same_span : Span → Span → Bool
same_span = eq_by_cmp span_cmp

-- a lock that is taken again is the same lock
abbrev pub with_read : Locks → ℕ → Span → Locks
with_read locks t span = if list_any (same_span span) (read_by locks t) then locks else record locks { reads = put locks.reads t (read_by locks t ++ span ∷ []) }

abbrev pub with_write : Locks → ℕ → List ℕ → Locks
with_write locks t key = if list_any (same_key key) (written_by locks t) then locks else record locks { writes = put locks.writes t (written_by locks t ++ key ∷ []) }

abbrev pub without_reads : Locks → ℕ → Locks
without_reads locks t = record locks { reads = without locks.reads t }

abbrev pub without_locks : Locks → ℕ → Locks
without_locks locks t = record { reads = without locks.reads t; writes = without locks.writes t }

-- whether u is in the way of a read by t
abbrev pub blocks_read : Locks → ℕ → Span → ℕ → Bool
blocks_read locks t span u = not (u == t) && list_any (span_has span) (written_by locks u)

-- whether u is in the way of a write by t
abbrev pub blocks_write : Locks → ℕ → List ℕ → ℕ → Bool
blocks_write locks t key u = not (u == t) && (list_any (same_key key) (written_by locks u) || reads_key (read_by locks u) key)

-- the least number that passes the test, or none where there is no such number
abbrev pub IsLeast : (ℕ → Bool) → Option ℕ → Type 0
IsLeast test None = (u : ℕ) → test u ≡ false
IsLeast test (Some t) = (test t ≡ true) × ((u : ℕ) → test u ≡ true → t ≤ u)
