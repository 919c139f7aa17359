-- The least transaction in the way of a vote, by what the index keeps.
use Rattle.std.specs.Prelude.{ℕ, Bool, ◌&&◌, not, ◌==◌, nat_lt, if◌then◌else◌, filter, List, [], ◌∷◌, Option, None, Some}
use Rattle.std.specs.FinMap.{entries, get}
use Rattle.co_base.specs.Span.{Span, span_has}
use Rattle.co_base.specs.declared.written.Written.{Written}
use Rattle.co_index.specs.declared.index.Index.{Index}
use Rattle.co_index.specs.Touching.{or_nobody}
use Rattle.co_state.specs.Keys.{reads_key, reads_meet}
use Rattle.co_state.specs.Table.{Table, least_where, lesser}

-- the one that was found before, where a number is no less than it
abbrev pub no_greater : Option ℕ → ℕ → Option ℕ
no_greater None t = None
no_greater (Some least) t = if nat_lt t least then None else Some least

-- the least other one of some transactions, the least voted one, and the least one of which a wide range has a written key
abbrev pub first_other : {X : Type 0} → ℕ → Table X → Option ℕ
first_other t txns = least_where (λ u mark. not (u == t)) txns

abbrev pub first_voted : ℕ → Table Bool → Option ℕ
first_voted t txns = least_where (λ u voted. voted && not (u == t)) txns

abbrev pub first_scanner : ℕ → List Written → Table (List Span) → Option ℕ
first_scanner t writes scanners = least_where (λ u spans. not (u == t) && reads_meet spans writes) scanners

-- the least of the one that was found before and those in the way at one key that was written, and at each
abbrev pub by_key : Index → ℕ → Option ℕ → List ℕ → Option ℕ
by_key x t found key = lesser (lesser found (first_other t (or_nobody (get x.readers key)))) (first_voted t (or_nobody (get x.writers key)))

abbrev pub by_writes : Index → ℕ → Option ℕ → List Written → Option ℕ
by_writes x t found [] = found
by_writes x t found (w ∷ ws) = by_writes x t (by_key x t found w.key) ws

-- those in the way in one range that was read, and in each
abbrev pub by_entries : ℕ → Option ℕ → List (List ℕ × Table Bool) → Option ℕ
by_entries t found [] = found
by_entries t found (e ∷ es) = by_entries t (lesser found (first_voted t e.1)) es

abbrev pub by_range : Index → ℕ → Option ℕ → Span → Option ℕ
by_range x t found span = by_entries t found (filter (λ e. span_has span e.0) (entries x.writers))

abbrev pub by_reads : Index → ℕ → Option ℕ → List Span → Option ℕ
by_reads x t found [] = found
by_reads x t found (span ∷ spans) = by_reads x t (by_range x t found span) spans

-- the same as `by_reads`, by each entry whose key was read
abbrev pub by_written : ℕ → List Span → Option ℕ → List (List ℕ × Table Bool) → Option ℕ
by_written t reads found [] = found
by_written t reads found (e ∷ es) = by_written t reads (if reads_key reads e.0 then lesser found (first_voted t e.1) else found) es
