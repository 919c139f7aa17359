-- The locks of the votes that stand: each vote holds what it read for reading and what it wrote for writing.
use Rattle.std.specs.Prelude.{ℕ, Bool, ◌≡◌, ◌&&◌, ◌||◌, ◌==◌, not, false, true, List, map, if◌then◌else◌, Option, None, Some, is_none}
use Rattle.std.specs.List.{list_any}
use Rattle.co_base.specs.Span.{Span}
use Rattle.co_base.specs.declared.written.Written.{Written}
use Rattle.co_locktab.specs.declared.lock_table.LockTable.{LockTable}
use Rattle.co_locktab.specs.Locks.{Locks, read_by, written_by}
use Rattle.co_locktab.specs.Shown.{Shows}
use Rattle.co_plain.specs.MemberView.{sets_conflict}
use Rattle.co_state.specs.Changes.{no_sets}
use Rattle.co_state.specs.Keys.{same_key, reads_key, writes_key}
use Rattle.co_state.specs.Table.{Table, look, put, least_where}
use Rattle.co_state.specs.declared.engine_state.Sets.{Sets}
use Rattle.co_state.specs.declared.engine_state.Vote.{Vote}

-- which keys each transaction holds for reading, and which for writing
pub record Held : Type 0 where
  pub reads : ℕ → List ℕ → Bool
  pub writes : ℕ → List ℕ → Bool

-- a lock table has locks of exactly these keys
pub record Holds (table : LockTable) (held : Held) : Type 0 where
  pub locks : Locks
  pub shown : Shows table locks
  pub reads_are : (t : ℕ) (key : List ℕ) → reads_key (read_by locks t) key ≡ held.reads t key
  pub writes_are : (t : ℕ) (key : List ℕ) → list_any (same_key key) (written_by locks t) ≡ held.writes t key

-- t holds the keys of these ranges too, and the keys of these changes
abbrev pub with_reads : Held → ℕ → List Span → Held
with_reads held t spans = record held { reads = λ u key. ((u == t) && reads_key spans key) || held.reads u key }

abbrev pub with_writes : Held → ℕ → List Written → Held
with_writes held t changes = record held { writes = λ u key. ((u == t) && writes_key changes key) || held.writes u key }

-- a change of the same key, without its value
abbrev pub without_value : Written → Written
without_value w = record { key = w.key; value = None }

abbrev pub without_values : Sets → Sets
without_values sets = record { reads = sets.reads; writes = map without_value sets.writes }

-- what a transaction that may have voted read and wrote
abbrev pub sets_in : Option Vote → Sets
sets_in None = no_sets
sets_in (Some vote) = vote.sets

abbrev pub sets_at : Table Vote → ℕ → Sets
sets_at voted t = sets_in (look voted t)

-- what the votes hold
abbrev pub held_by : Table Vote → Held
held_by voted = record { reads = λ t key. reads_key (sets_at voted t).reads key; writes = λ t key. writes_key (sets_at voted t).writes key }

-- whether u has a vote, not being t, that is in conflict with these sets
abbrev pub is_against : Table Vote → ℕ → Sets → ℕ → Bool
is_against voted t sets u = not (u == t) && sets_conflict (sets_at voted u) sets

-- a number that passes the test, or none where none does
abbrev pub IsFound : (ℕ → Bool) → Option ℕ → Type 0
IsFound test None = (u : ℕ) → test u ≡ false
IsFound test (Some u) = test u ≡ true

-- whether a vote is in conflict with these sets
abbrev pub some_conflicts : Table Vote → Sets → Bool
some_conflicts voted sets = not (is_none (least_where (λ u vote. sets_conflict vote.sets sets) voted))

-- the votes with one more, or none where a vote is in conflict with it
abbrev pub with_vote : Table Vote → ℕ → Vote → Option (Table Vote)
with_vote voted t vote = if some_conflicts voted vote.sets then None else Some (put voted t vote)
