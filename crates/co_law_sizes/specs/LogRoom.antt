-- How long the logs of a run may become, as plain sums over what happened.
use Rattle.std.specs.Prelude.{ℕ, ◌+◌, ◌*◌, ◌≤◌, List, [], ◌∷◌, length}
use Rattle.co_base.specs.declared.op.Op.{Op}
use Rattle.co_base.specs.declared.op.Op.TheVariants as op
use Rattle.co_message.specs.declared.event.Event.{Event}
use Rattle.co_message.specs.declared.event.Event.TheVariants as event
use Rattle.co_plain.specs.declared.happening.Happening.{Happening}
use Rattle.co_plain.specs.declared.happening.Happening.TheVariants as happening
use Rattle.co_plain.specs.Federation.{Federation}
use Rattle.co_plain.specs.LogWrite.{generation_of}
use Rattle.co_log.specs.Sizes.{log_bytes}

-- The bytes that an operation takes in the record of a vote: a range for what it reads, a change for what it writes.
abbrev pub op_bytes : Op → ℕ
op_bytes (op.Read key) = 2 + length key + length key
op_bytes (op.Write key value) = 4 + length key + length value
op_bytes (op.Erase key) = 2 + length key
op_bytes (op.Scan span) = 2 + length span.lo + length span.hi

abbrev pub event_bytes : Event → ℕ
event_bytes (event.Read t m key) = op_bytes (op.Read key)
event_bytes (event.Write t m key value) = op_bytes (op.Write key value)
event_bytes (event.Erase t m key) = op_bytes (op.Erase key)
event_bytes (event.Scan t m span) = op_bytes (op.Scan span)
event_bytes _ = 0

abbrev pub happening_bytes : Happening → ℕ
happening_bytes (happening.Line e) = event_bytes e
happening_bytes (happening.Hand t m commit) = 0
happening_bytes happening.Disarm = 0

abbrev pub event_checkpoints : Event → ℕ
event_checkpoints (event.Checkpoint at) = 1
event_checkpoints _ = 0

abbrev pub happening_checkpoints : Happening → ℕ
happening_checkpoints (happening.Line e) = event_checkpoints e
happening_checkpoints (happening.Hand t m commit) = 0
happening_checkpoints happening.Disarm = 0

-- The bytes that a log may have after these happenings. A filled spare takes 31 beside its rows, undos, numbers and votes, and each
-- happening adds 30 at most. The bytes of an operation count three times: a checkpoint of a locking member may have what undecided
-- transactions changed in its rows and in its undos, and once more in the records of their votes.
abbrev pub room : List Happening → ℕ
room [] = 31
room (h ∷ hs) = 30 + 3 * happening_bytes h + room hs

-- The greatest generation that a log may have: the first one, and one more for each checkpoint event.
abbrev pub most_generation : List Happening → ℕ
most_generation [] = 1
most_generation (h ∷ hs) = happening_checkpoints h + most_generation hs

-- No log of a member or of a coordinator is longer, and none has a greater generation.
pub record AreWithin (bytes generation : ℕ) (s : Federation) : Type 0 where
  pub member_bytes : (m : ℕ) → log_bytes (s.member m).log.stable ≤ bytes
  pub coord_bytes : (c : ℕ) → log_bytes (s.coord c).log.stable ≤ bytes
  pub member_generations : (m : ℕ) → generation_of (s.member m).log.stable ≤ generation
  pub coord_generations : (c : ℕ) → generation_of (s.coord c).log.stable ≤ generation
