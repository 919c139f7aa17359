-- What a transaction was told of a record, and what it leaves there.
use Rattle.std.specs.Prelude.{ℕ, Bool, true, false, ◌≡◌, ◌≢◌, ◌&&◌, ◌==◌, List, [], ◌∷◌, if◌then◌else◌, Option, None, Some}
use Rattle.co_base.specs.Span.{span_has}
use Rattle.co_base.specs.declared.op.Op.{Op}
use Rattle.co_base.specs.declared.op.Op.TheVariants.{Read, Write, Erase, Scan}
use Rattle.co_base.specs.declared.reply.Reply.{Reply}
use Rattle.co_base.specs.declared.reply.Reply.TheVariants.{Got, Rows, Done}
use Rattle.co_base.specs.declared.row.Row.{Row}
use Rattle.co_state.specs.Keys.{same_key}
use Rattle.co_check.specs.declared.client.Answered.{Answered}
use Rattle.co_order_check.specs.declared.record_id.RecordId.{RecordId}

-- whether it is the record of this key of the member
abbrev pub is_record : RecordId → ℕ → List ℕ → Bool
is_record r member key = (member == r.member) && same_key r.key key

-- what stands in a record: a value, or none where it was erased or never written
abbrev pub Content : Type 0
Content = Option (List ℕ)

-- What an operation leaves of a key, at its member or elsewhere, where the ones before it left this. None: nothing was written or erased there.
abbrev pub left_at : Bool → List ℕ → Option Content → Op → Option Content
left_at here key held (Read k) = held
left_at here key held (Write k value) = if here && same_key key k then Some (Some value) else held
left_at here key held (Erase k) = if here && same_key key k then Some None else held
left_at here key held (Scan span) = held

abbrev pub left_by : RecordId → Option Content → ℕ → Op → Option Content
left_by r held member op = left_at (member == r.member) r.key held op

abbrev pub left_from : RecordId → Option Content → List Answered → Option Content
left_from r held [] = held
left_from r held (a ∷ told) = left_from r (left_by r held a.site.member a.site.op) told

-- what operations, the first one first, leave in the record
abbrev pub left : RecordId → List Answered → Option Content
left r told = left_from r None told

-- the value of a key among rows
abbrev pub value_in : List Row → List ℕ → Content
value_in [] key = None
value_in (row ∷ rows) key = if same_key key row.key then Some row.value else value_in rows key

-- What a reply to an operation tells of a key, at its member or elsewhere: a read of it its content, a scan of a range that has it also that it is not there.
abbrev pub told_at : Bool → List ℕ → Op → Reply → Option Content
told_at here key (Read k) (Got value) = if here && same_key key k then Some value else None
told_at here key (Scan span) (Rows rows) = if here && span_has span key then Some (value_in rows key) else None
told_at here key _ _ = None

abbrev pub tells : RecordId → Answered → Option Content
tells r a = told_at (a.site.member == r.member) r.key a.site.op a.reply

-- content laid over older one
abbrev pub over : Option Content → Content → Content
over None old = old
over (Some new) old = new

-- a test tells whether this was left
abbrev pub Reflects : Bool → Option Content → Content → Type 0
Reflects is held content = (is ≡ true → held ≡ Some content) × (is ≡ false → held ≢ Some content)
