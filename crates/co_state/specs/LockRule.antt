-- The lock rule (strict two-phase locking, with read locks that end at the vote). Only a locking engine
-- blocks. A read is blocked while another undecided transaction wrote a key of its range; a write while
-- another undecided one wrote its key, or another active one read a range that has it.
use Rattle.std.specs.Prelude.{ℕ, Bool, ◌&&◌, ◌||◌, not, ◌==◌, List, Option, None}
use Rattle.co_base.specs.declared.head.Kind.{Kind}
use Rattle.co_base.specs.declared.head.Kind.TheVariants.{Lock, Occ, Mv}
use Rattle.co_base.specs.declared.op.Op.{Op}
use Rattle.co_base.specs.declared.op.Op.TheVariants.{Read, Write, Erase, Scan}
use Rattle.co_base.specs.declared.written.Written.{Written}
use Rattle.co_base.specs.Span.{span_of_key}
use Rattle.co_state.specs.declared.engine_state.EngineState.{EngineState}
use Rattle.co_state.specs.declared.engine_state.Operation.{Operation}
use Rattle.co_state.specs.Table.{least_where, lesser}
use Rattle.co_state.specs.Keys.{reads_key, writes_key, writes_within}
use Rattle.co_state.specs.Changes.{spans_of, changes_of}

-- whether another transaction's writes are in the way
abbrev pub writes_block : List Written → Op → Bool
writes_block ws (Read key) = writes_within ws (span_of_key key)
writes_block ws (Scan span) = writes_within ws span
writes_block ws (Write key value) = writes_key ws key
writes_block ws (Erase key) = writes_key ws key

-- whether another active transaction is in the way, by its operations
abbrev pub active_blocks : List Operation → Op → Bool
active_blocks os (Read key) = writes_block (changes_of os) (Read key)
active_blocks os (Scan span) = writes_block (changes_of os) (Scan span)
active_blocks os (Write key value) = writes_block (changes_of os) (Write key value) || reads_key (spans_of os) key
active_blocks os (Erase key) = writes_block (changes_of os) (Erase key) || reads_key (spans_of os) key

-- the least other transaction in the way
abbrev pub lock_holder : EngineState → ℕ → Op → Option ℕ
lock_holder b t op =
    lesser
    (least_where (λ u os. not (u == t) && active_blocks os op) b.active)
    (least_where (λ u vote. not (u == t) && writes_block vote.sets.writes op) b.voted)

abbrev pub blocker_by : Kind → Option ℕ → Option ℕ
blocker_by Lock holder = holder
blocker_by Occ holder = None
blocker_by Mv holder = None

abbrev pub lock_blocker : EngineState → ℕ → Op → Option ℕ
lock_blocker b t op = blocker_by b.kind (lock_holder b t op)
