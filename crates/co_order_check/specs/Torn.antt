-- Replies that a transaction is given in no order, whatever the others did.
use Rattle.std.specs.Prelude.{ℕ, ◌≡◌, ◌≢◌, false, List, take, slice_get, Option, None, Some}
use Rattle.co_base.specs.Span.{Span, span_has}
use Rattle.co_base.specs.declared.op.Op.{Op}
use Rattle.co_base.specs.declared.op.Op.TheVariants.{Read, Write, Erase, Scan}
use Rattle.co_base.specs.declared.reply.Reply.{Reply}
use Rattle.co_base.specs.declared.reply.Reply.TheVariants.{Got, Rows, Done}
use Rattle.co_base.specs.declared.row.Row.{Row}
use Rattle.co_check.specs.declared.client.Answered.{Answered}
use Rattle.co_order_check.specs.Reads.{Content, left, tells}
use Rattle.co_order_check.specs.declared.record_id.RecordId.{RecordId}

-- a reply is none of such an operation
abbrev pub IsOddTo : Op → Reply → Type 0
IsOddTo (Read key) (Got value) = ⊥
IsOddTo (Scan span) (Rows rows) = ⊥
IsOddTo (Write key value) Done = ⊥
IsOddTo (Erase key) Done = ⊥
IsOddTo _ _ = Unit {0}

-- a row is outside the range of the scan
abbrev pub IsOutsideOf : Op → Reply → Type 0
IsOutsideOf (Scan span) (Rows rows) = (i : ℕ) × (row : Row) × (slice_get rows i ≡ Some row) × (span_has span row.key ≡ false)
IsOutsideOf _ _ = ⊥

-- an operation is told of a record otherwise than the transaction itself left it before
pub record DiffersFromOwn (told : List Answered) (place : ℕ) (r : RecordId) : Type 0 where
  pub at : Answered
  pub is_at : slice_get told place ≡ Some at
  pub own : Content
  pub is_own : left r (take place told) ≡ Some own
  pub content : Content
  pub is_told : tells r at ≡ Some content
  pub differs : own ≢ content

-- an operation is told so of a record before the transaction writes or erases it
pub record IsToldOfOthers (told : List Answered) (place : ℕ) (r : RecordId) (content : Content) : Type 0 where
  pub at : Answered
  pub is_at : slice_get told place ≡ Some at
  pub own : left r (take place told) ≡ None
  pub is_told : tells r at ≡ Some content

-- two operations are told otherwise of a record before the transaction writes or erases it
pub record DiffersFromOthers (told : List Answered) (one other : ℕ) (r : RecordId) : Type 0 where
  pub first : Content
  pub second : Content
  pub is_first : IsToldOfOthers told one r first
  pub is_second : IsToldOfOthers told other r second
  pub differs : first ≢ second

pub data IsTorn (told : List Answered) : Type 0 where
  Kind : (place : ℕ) (at : Answered) → slice_get told place ≡ Some at → IsOddTo at.site.op at.reply → IsTorn told
  Outside : (place : ℕ) (at : Answered) → slice_get told place ≡ Some at → IsOutsideOf at.site.op at.reply → IsTorn told
  Own : (place : ℕ) (r : RecordId) → DiffersFromOwn told place r → IsTorn told
  Twice : (one other : ℕ) (r : RecordId) → DiffersFromOthers told one other r → IsTorn told
