-- What a locking engine keeps of its undecided transactions, with one operation more.
use Rattle.std.specs.Prelude.{ℕ}
use Rattle.co_base.specs.Span.{Span}
use Rattle.co_base.specs.declared.written.Written.{Written}
use Rattle.co_engine.specs.declared.undecided.Undecided.{Undecided}
use Rattle.co_engine.specs.Undecided.{active_with, own}
use Rattle.co_state.specs.Changes.{put_span, put_change}
use Rattle.co_state.specs.Table.{Table, put, without}

-- an active transaction with a range more, and with a change more
abbrev pub with_range : Table Undecided → ℕ → Span → Table Undecided
with_range roll t span = put (without roll t) t (active_with (record { reads = put_span span (own roll t).sets.reads; writes = (own roll t).sets.writes }))

abbrev pub with_change_of : Table Undecided → ℕ → Written → Table Undecided
with_change_of roll t change = put (without roll t) t (active_with (record { reads = (own roll t).sets.reads; writes = put_change change (own roll t).sets.writes }))
