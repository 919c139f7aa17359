-- Records that are spelled out for a log as one batch.
use Rattle.std.specs.Prelude.{ℕ, ◌≡◌, ◌+◌, ◌≤◌, ◌<◌, List, ◌++◌, length, Result, Ok, Err}
use Rattle.std.specs.List.{AllByRecursion}
use Rattle.co_base.specs.Limits.{most_log_bytes}
use Rattle.co_record.specs.declared.record.Record.{Record}
use Rattle.co_record.specs.Spelling.{IsSpelled}
use Rattle.co_log.specs.declared.batch.SpelledBatch.{SpelledBatch}
use Rattle.co_log.specs.declared.fault.LogFault.{LogFault}
use Rattle.co_log.specs.declared.fault.LogFault.TheVariants.{Device, Stopped, Bad, Differs, Full, InUse, Memory}
use Rattle.co_log.specs.Appending.{IsTooLong}
use Rattle.co_log.specs.BatchWrite.{closed_batch}
use Rattle.co_log.specs.LogFile.{spelled}
use Rattle.co_log.specs.LogView.{LogView}
use Rattle.co_log.specs.Marks.{marks_of}

-- These bytes are the batch of these records, with a closed gate behind it, and a file whose gate stands at this place is not too long with them.
pub record IsBatchAt (gate : ℕ) (items : List Record) (bytes : List ℕ) : Type 0 where
  pub some : 0 < length items
  pub text : bytes ≡ closed_batch items
  pub each : AllByRecursion IsSpelled items
  pub short : gate + 6 + length (spelled items) ≤ most_log_bytes

-- a batch of the waiting records of a log and of these behind them, with the marks of all of them
pub record IsBatchOf (log : LogView) (more : List Record) (made : SpelledBatch) : Type 0 where
  pub batch : IsBatchAt log.gate (log.waiting ++ more) made.bytes.items
  pub told : made.told ≡ marks_of log.node (log.waiting ++ more)

-- How these records are spelled out for a log, by the answer: they are, or its file would be too long, or there was no memory.
abbrev pub AreSpelledFor : LogView → List Record → Result SpelledBatch LogFault → Type 0
AreSpelledFor log more (Ok batch) = IsBatchOf log more batch
AreSpelledFor log more (Err (Device spot)) = ⊥
AreSpelledFor log more (Err (Stopped call stable marks)) = ⊥
AreSpelledFor log more (Err (Bad spot at)) = ⊥
AreSpelledFor log more (Err (Differs spot at kept read)) = ⊥
AreSpelledFor log more (Err (Full spot)) = (spot ≡ log.current.spot) × IsTooLong log.gate (log.waiting ++ more)
AreSpelledFor log more (Err (InUse spot)) = ⊥
AreSpelledFor log more (Err Memory) = Unit {0}
