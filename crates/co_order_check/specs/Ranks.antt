-- What a serial order says of its transactions: each has a rank, and reads what the last one before it left.
use Rattle.std.specs.Prelude.{ℕ, ◌≡◌, ◌<◌, ◌⊎◌, List, length, Option, None, Some, is_some, true}
use Rattle.std.specs.FinMap.{get}
use Rattle.co_serial.specs.SerialRun.{AllRecords, run_whole}
use Rattle.co_check.specs.Runs.{sites, replies}
use Rattle.co_check.specs.declared.client.Committed.{Committed}
use Rattle.co_order_check.specs.Order.{operations}
use Rattle.co_order_check.specs.Reads.{Content, left}
use Rattle.co_order_check.specs.declared.record_id.RecordId.{RecordId}

-- the transaction writes or erases the record
abbrev pub Leaves : List Committed → ℕ → RecordId → Type 0
Leaves ds t r = is_some (left r (operations ds t)) ≡ true

-- no transaction before this one leaves anything in the record, and nothing stands there
pub record IsUntouched (ds : List Committed) (rank : ℕ → ℕ) (t : ℕ) (r : RecordId) (value : Content) : Type 0 where
  pub missing : value ≡ None
  pub none : (u : ℕ) → u < length ds → Leaves ds u r → rank u < rank t → ⊥

-- the last one before it that leaves anything there left this
pub record IsLeftBy (ds : List Committed) (rank : ℕ → ℕ) (t s : ℕ) (r : RecordId) (value : Content) : Type 0 where
  pub one : s < length ds
  pub before : rank s < rank t
  pub left_there : left r (operations ds s) ≡ Some value
  pub last : (u : ℕ) → u < length ds → Leaves ds u r → rank s < rank u → rank u < rank t → ⊥

abbrev pub IsSeen : List Committed → (ℕ → ℕ) → ℕ → RecordId → Content → Type 0
IsSeen ds rank t r value = IsUntouched ds rank t r value ⊎ ((s : ℕ) × IsLeftBy ds rank t s r value)

-- a transaction runs whole on records, each of which it sees as it was left before
pub record Ran (ds : List Committed) (rank : ℕ → ℕ) (t : ℕ) : Type 0 where
  pub on : AllRecords
  pub same : replies (operations ds t) ≡ run_whole on (sites (operations ds t))
  pub sees : (r : RecordId) → IsSeen ds rank t r (get (on r.member) r.key)

pub record Ranks (ds : List Committed) : Type 0 where
  pub rank : ℕ → ℕ
  pub apart : (t u : ℕ) → t < length ds → u < length ds → rank t ≡ rank u → t ≡ u
  pub ran : (t : ℕ) → t < length ds → Ran ds rank t
