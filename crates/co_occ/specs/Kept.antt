-- What is kept of the reads of each active transaction.
use Rattle.std.specs.Prelude.{ℕ, List, [], ◌∷◌, Option, None, Some}
use Rattle.co_base.specs.Span.{Span}
use Rattle.co_state.specs.declared.engine_state.Operation.{Operation}
use Rattle.co_state.specs.Changes.{span_read}
use Rattle.co_state.specs.Table.{lesser}
use Rattle.co_occ.specs.declared.reads.Reads.{Reads}

-- one read more
abbrev pub with_read : Option Span → ℕ → Reads → Reads
with_read None stamp reads = reads
with_read (Some span) stamp reads = record { oldest = lesser (Some stamp) reads.oldest; list = record { range = span; stamp = stamp } ∷ reads.list }

abbrev pub no_reads : Reads
no_reads = record { oldest = None; list = [] }

-- what operations read and when, the newest operation first
abbrev pub reads_of : List Operation → Reads
reads_of [] = no_reads
reads_of (o ∷ os) = with_read (span_read o.op) o.stamp (reads_of os)

-- a transaction that is absent read nothing yet
abbrev pub or_unread : Option Reads → Reads
or_unread None = no_reads
or_unread (Some reads) = reads

-- the oldest read of all
abbrev pub oldest_kept : List (ℕ × Reads) → Option ℕ
oldest_kept [] = None
oldest_kept (e ∷ es) = lesser e.1.oldest (oldest_kept es)
