-- Which transactions touched which keys.
use Rattle.std.specs.Prelude.{ℕ, Bool, true, false, ◌==◌, List, [], ◌∷◌, length, if◌then◌else◌, Option, None, Some}
use Rattle.std.specs.FinMap.{FinMap, empty, entries, get, insert, remove}
use Rattle.co_base.specs.Order.{key_cmp}
use Rattle.co_base.specs.Span.{Span}
use Rattle.co_base.specs.declared.written.Written.{Written}
use Rattle.co_state.specs.Changes.{put_span}
use Rattle.co_state.specs.Keys.{same_key, reads_key}
use Rattle.co_state.specs.Table.{Table, no_entries, look, put, without}
use Rattle.co_index.specs.declared.index.Index.{Index}

-- the transactions that touched each key, each with a mark
abbrev pub Touches : Type 0 → Type 0
Touches X = FinMap key_cmp (Table X)

abbrev pub or_nobody : {X : Type 0} → Option (Table X) → Table X
or_nobody None = no_entries
or_nobody (Some txns) = txns

abbrev pub touch_at : {X : Type 0} → Touches X → List ℕ → ℕ → Option X
touch_at m key t = look (or_nobody (get m key)) t

abbrev pub with_touch : {X : Type 0} → Touches X → List ℕ → ℕ → X → Touches X
with_touch m key t mark = insert (remove m key) key (put (or_nobody (get m key)) t mark)

abbrev pub without_in : {X : Type 0} → Touches X → List ℕ → ℕ → Option (Table X) → Touches X
without_in m key t None = m
without_in m key t (Some txns) = insert m key (without txns t)

abbrev pub without_touch : {X : Type 0} → Touches X → List ℕ → ℕ → Touches X
without_touch m key t = without_in m key t (get m key)

-- a key stands there that nobody touches
abbrev pub is_nobody : {X : Type 0} → Option (Table X) → Bool
is_nobody None = false
is_nobody (Some txns) = length (entries txns) == 0

abbrev pub settled : {X : Type 0} → Touches X → List ℕ → Touches X
settled m key = if is_nobody (get m key) then remove m key else m

-- a transaction is marked, where it is there
abbrev pub marked_from : Table Bool → ℕ → Option Bool → Table Bool
marked_from txns t None = txns
marked_from txns t (Some mark) = put txns t true

abbrev pub marked : Table Bool → ℕ → Table Bool
marked txns t = marked_from txns t (look txns t)

abbrev pub marked_in : Touches Bool → List ℕ → ℕ → Option (Table Bool) → Touches Bool
marked_in m key t None = m
marked_in m key t (Some txns) = insert m key (marked txns t)

abbrev pub with_mark : Touches Bool → List ℕ → ℕ → Touches Bool
with_mark m key t = marked_in m key t (get m key)

-- ---- the wide ranges of each transaction
abbrev pub spans_in : Option (List Span) → List Span
spans_in None = []
spans_in (Some spans) = spans

abbrev pub scans : Table (List Span) → List ℕ → ℕ → Bool
scans m key t = reads_key (spans_in (look m t)) key

abbrev pub with_scan : Table (List Span) → Span → ℕ → Table (List Span)
with_scan m span t = put (without m t) t (put_span span (spans_in (look m t)))

-- ---- all that undecided transactions touched
abbrev pub no_index : Index
no_index = record { writers = empty; readers = empty; scanners = no_entries }

abbrev pub read_at : Bool → Index → Span → ℕ → Index
read_at true x span t = record x { readers = with_touch x.readers span.lo t tt }
read_at false x span t = record x { scanners = with_scan x.scanners span t }

-- a read of one key is kept by the key
abbrev pub with_read : Index → Span → ℕ → Index
with_read x span t = read_at (same_key span.lo span.hi) x span t

abbrev pub with_write : Index → List ℕ → ℕ → Bool → Index
with_write x key t voted = record x { writers = with_touch x.writers key t voted }

abbrev pub with_reads : Index → List Span → ℕ → Index
with_reads x [] t = x
with_reads x (span ∷ spans) t = with_reads (with_read x span t) spans t

-- the writes of a voted transaction
abbrev pub with_writes : Index → List Written → ℕ → Index
with_writes x [] t = x
with_writes x (w ∷ ws) t = with_writes (with_write x w.key t true) ws t

abbrev pub with_votes : Index → List Written → ℕ → Index
with_votes x [] t = x
with_votes x (w ∷ ws) t = with_votes (record x { writers = with_mark x.writers w.key t }) ws t

abbrev pub forgotten_at : Bool → Index → Span → ℕ → Index
forgotten_at true x span t = record x { readers = settled (without_touch x.readers span.lo t) span.lo }
forgotten_at false x span t = record x { scanners = without x.scanners t }

abbrev pub without_read : Index → Span → ℕ → Index
without_read x span t = forgotten_at (same_key span.lo span.hi) x span t

abbrev pub without_write : Index → List ℕ → ℕ → Index
without_write x key t = record x { writers = settled (without_touch x.writers key t) key }

abbrev pub without_reads : Index → List Span → ℕ → Index
without_reads x [] t = x
without_reads x (span ∷ spans) t = without_reads (without_read x span t) spans t

abbrev pub without_writes : Index → List Written → ℕ → Index
without_writes x [] t = x
without_writes x (w ∷ ws) t = without_writes (without_write x w.key t) ws t

-- a transaction that has not voted reads a range, or writes a key, if there is one
abbrev pub read_noted : Option Span → Index → ℕ → Index
read_noted None x t = x
read_noted (Some span) x t = with_read x span t

abbrev pub change_noted : Option Written → Index → ℕ → Index
change_noted None x t = x
change_noted (Some change) x t = with_write x change.key t false
