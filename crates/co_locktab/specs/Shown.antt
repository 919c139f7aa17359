-- For which plain locks a lock table stands.
use Rattle.std.specs.Prelude.{ℕ, Bool, ◌≡◌, ◌&&◌, not, List}
use Rattle.std.specs.List.{list_any}
use Rattle.co_base.specs.Span.{Span, span_of_key}
use Rattle.co_locktab.specs.declared.lock_table.LockTable.{LockTable}
use Rattle.co_locktab.specs.Holding.{is_held}
use Rattle.co_locktab.specs.Places.{IsIndexed}
use Rattle.co_locktab.specs.Locks.{Locks, read_by, written_by, same_span}
use Rattle.co_state.specs.Keys.{same_key}

-- whether a range is more than one key
abbrev pub is_wide : Span → Bool
is_wide span = not (same_key span.lo span.hi)

pub record Shows (table : LockTable) (locks : Locks) : Type 0 where
  pub reads_are : table.reads ≡ locks.reads
  pub writes_are : table.writes ≡ locks.writes
  -- each lock stands where it is looked for
  pub writers_are : (key : List ℕ) (t : ℕ) → is_held table.writers key t ≡ list_any (same_key key) (written_by locks t)
  pub readers_are : (key : List ℕ) (t : ℕ) → is_held table.readers key t ≡ list_any (same_span (span_of_key key)) (read_by locks t)
  pub wide_readers_are : (span : Span) (t : ℕ) → is_held table.wide_readers.held span t ≡ (is_wide span && list_any (same_span span) (read_by locks t))
  -- and the wide ranges stand at their forks
  pub wide_readers_found : IsIndexed table.wide_readers.held table.wide_readers.forks
