-- The read rule: which records an operation sees, and what it answers.
use Rattle.std.specs.Prelude.{ℕ, List, [], ◌∷◌, length}
use Rattle.co_base.specs.declared.head.Kind.{Kind}
use Rattle.co_base.specs.declared.head.Kind.TheVariants.{Lock, Occ, Mv}
use Rattle.co_base.specs.declared.op.Op.{Op}
use Rattle.co_base.specs.declared.reply.Reply.{Reply}
use Rattle.co_serial.specs.Records.{Records, with_changes}
use Rattle.co_serial.specs.SerialRun.{reply_to}
use Rattle.co_state.specs.declared.engine_state.EngineState.{EngineState}
use Rattle.co_state.specs.declared.engine_state.Operation.{Operation}
use Rattle.co_state.specs.Changes.{changes_of}
use Rattle.co_state.specs.EngineState.{records_at, operations_of}

-- How many installs an operation sees, given those that there are now and the operations before it.
-- Locking and validating engines see all. A multiversion engine sees those that there were at the first
-- operation of the transaction, so each later operation bears the stamp of the one before it.
abbrev pub stamp_after : Kind → ℕ → List Operation → ℕ
stamp_after Lock now os = now
stamp_after Occ now os = now
stamp_after Mv now [] = now
stamp_after Mv now (o ∷ os) = o.stamp

abbrev pub snapshot_of : EngineState → ℕ → ℕ
snapshot_of b t = stamp_after b.kind (length b.installed) (operations_of b t)

-- the records at its snapshot, with the transaction's own writes laid over
abbrev pub visible_records : EngineState → ℕ → Records
visible_records b t = with_changes (records_at b.base b.installed (snapshot_of b t)) (changes_of (operations_of b t))

-- what an operation answers that is not blocked
abbrev pub operation_reply : EngineState → ℕ → Op → Reply
operation_reply b t op = reply_to (visible_records b t) op
