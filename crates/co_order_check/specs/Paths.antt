-- Reads that have one source, and paths of them from version to version.
use Rattle.std.specs.Prelude.{ℕ, ◌≡◌, ◌≢◌, ◌<◌, List, [], ◌∷◌, length, take, slice_get, Option, None, Some, is_some, true}
use Rattle.co_check.specs.declared.client.Answered.{Answered}
use Rattle.co_check.specs.declared.client.Committed.{Committed}
use Rattle.co_order_check.specs.Order.{at, operations}
use Rattle.co_order_check.specs.Ranks.{Ranks, Leaves}
use Rattle.co_order_check.specs.Reads.{Content, left, tells}
use Rattle.co_order_check.specs.declared.record_id.RecordId.{RecordId}
use Rattle.co_order_check.specs.declared.reading.Reading.{Reading}

-- the transaction reads the record from others: it is told of it before it writes or erases it
pub record ReadsFromOthers (ds : List Committed) (t place : ℕ) (r : RecordId) (value : Content) : Type 0 where
  pub one : t < length ds
  pub at_place : Answered
  pub is_at : slice_get (operations ds t) place ≡ Some at_place
  pub own : left r (take place (operations ds t)) ≡ None
  pub told : tells r at_place ≡ Some value

-- the one source of a value that a transaction read from others: another that left it, or for a missing one the start
abbrev pub IsOnlySource : List Committed → ℕ → RecordId → Content → Option ℕ → Type 0
IsOnlySource ds t r value None = (value ≡ None) × ((u : ℕ) → u < length ds → u ≢ t → left r (operations ds u) ≢ Some value)
IsOnlySource ds t r value (Some s) = (is_some value ≡ true) × ((u : ℕ) → u < length ds → u ≢ t → u ≢ s → left r (operations ds u) ≢ Some value)

-- another transaction left this
pub record IsSource (ds : List Committed) (t : ℕ) (r : RecordId) (value : Content) (s : ℕ) : Type 0 where
  pub one : s < length ds
  pub other : s ≢ t
  pub left_there : left r (operations ds s) ≡ Some value

-- it may come from the start, or from a transaction that is not this one
abbrev pub MayComeFrom : List Committed → ℕ → RecordId → Content → Option ℕ → ℕ → Type 0
MayComeFrom ds t r value None s = value ≡ None
MayComeFrom ds t r value (Some q) s = (q ≢ s) × IsSource ds t r value q

-- what an operation reads from others has two sources
pub record HasTwoSources (ds : List Committed) (t place : ℕ) : Type 0 where
  pub of : RecordId
  pub value : Content
  pub reads : ReadsFromOthers ds t place of value
  pub first : Option ℕ
  pub second : ℕ
  pub one_source : MayComeFrom ds t of value first second
  pub other_source : IsSource ds t of value second

-- an operation of the transaction of this number, at this line
pub record StandsAt (ds : List Committed) (t place txn line : ℕ) : Type 0 where
  pub one : t < length ds
  pub is_txn : (at ds t).txn ≡ txn
  pub op : Answered
  pub is_op : slice_get (operations ds t) place ≡ Some op
  pub is_line : op.number ≡ line

pub record RepeatsAt (ds : List Committed) (txn line : ℕ) : Type 0 where
  pub t : ℕ
  pub place : ℕ
  pub stands : StandsAt ds t place txn line
  pub two : HasTwoSources ds t place

pub record IsReading (ds : List Committed) (x : Reading) : Type 0 where
  pub reads : ReadsFromOthers ds x.reader x.place x.record x.value
  pub source : IsOnlySource ds x.reader x.record x.value x.source

-- each reading is one of the version before it
abbrev pub IsPath : List Committed → RecordId → Option ℕ → List Reading → Type 0
IsPath ds r from [] = Unit {0}
IsPath ds r from (x ∷ xs) = IsReading ds x × (x.record ≡ r) × (x.source ≡ from) × IsPath ds r (Some x.reader) xs

-- where it ends
abbrev pub end : Option ℕ → List Reading → Option ℕ
end from [] = from
end from (x ∷ xs) = end (Some x.reader) xs

-- the transaction stands behind a version; all stand behind the start
abbrev pub IsBehind : (ℕ → ℕ) → Option ℕ → ℕ → Type 0
IsBehind rank None u = Unit {0}
IsBehind rank (Some t) u = rank t < rank u

-- it is none of the readers
abbrev pub IsNone : ℕ → List Reading → Type 0
IsNone u [] = Unit {0}
IsNone u (x ∷ xs) = (u ≢ x.reader) × IsNone u xs
