-- Whether committed transactions read what the serial run reads, and which is the first that does not.
use Rattle.std.specs.Prelude.{ℕ, ◌≡◌, List, [], ◌∷◌, ◌++◌, map, reverse}
use Rattle.std.specs.FinMap as fin
use Rattle.co_base.specs.declared.reply.Reply.{Reply}
use Rattle.co_serial.specs.SerialRun.{AllRecords, after, run_whole}
use Rattle.co_check.specs.Account.{Committed}
use Rattle.co_check.specs.Runs.{sites, replies, IsUnlike}

-- what the serial run of transactions leaves that begins with these records; the newest transaction stands first
abbrev pub serial_from : AllRecords → List Committed → AllRecords
serial_from start committed = after start (reverse (map (λ d. sites (reverse d.told)) committed))

-- a transaction reads what it reads when run whole behind the earlier ones
abbrev pub ReadsSeriallyFrom : AllRecords → List Committed → Committed → Type 0
ReadsSeriallyFrom start earlier d = replies (reverse d.told) ≡ run_whole (serial_from start earlier) (sites (reverse d.told))

-- every committed transaction does
abbrev pub IsSerialFrom : AllRecords → List Committed → Type 0
IsSerialFrom start [] = Unit {0}
IsSerialFrom start (d ∷ earlier) = ReadsSeriallyFrom start earlier d × IsSerialFrom start earlier

-- the first transaction in the order of decisions that does not read serially, and its first operation that differs
pub record IsFirstToDifferFrom (start : AllRecords) (committed : List Committed) (txn number : ℕ) (told serial : Reply) : Type 0 where
  pub later : List Committed
  pub d : Committed
  pub earlier : List Committed
  pub order : committed ≡ later ++ d ∷ earlier
  pub serially : IsSerialFrom start earlier
  pub is_txn : txn ≡ d.txn
  pub differs : IsUnlike (serial_from start earlier) (reverse d.told) number told serial

-- ---- a serial run that begins with no records

abbrev pub no_records : AllRecords
no_records m = fin.empty

abbrev pub serial_after : List Committed → AllRecords
serial_after = serial_from no_records

abbrev pub ReadsSerially : List Committed → Committed → Type 0
ReadsSerially = ReadsSeriallyFrom no_records

abbrev pub IsSerial : List Committed → Type 0
IsSerial = IsSerialFrom no_records

abbrev pub IsFirstToDiffer : List Committed → ℕ → ℕ → Reply → Reply → Type 0
IsFirstToDiffer = IsFirstToDifferFrom no_records
