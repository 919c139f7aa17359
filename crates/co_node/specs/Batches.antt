-- How records are spelled out for a log, as the node that asked for it sees it.
use Rattle.std.specs.Prelude.{◌≡◌, List, ◌++◌, Result, Ok, Err}
use Rattle.co_record.specs.declared.record.Record.{Record}
use Rattle.co_log.specs.Appending.{IsTooLong}
use Rattle.co_log.specs.Batches.{IsBatchOf}
use Rattle.co_log.specs.LogView.{LogView}
use Rattle.co_log.specs.declared.batch.SpelledBatch.{SpelledBatch}
use Rattle.co_log.specs.declared.fault.NodeFault.{NodeFault}
use Rattle.co_log.specs.declared.fault.NodeFault.TheVariants.{Device, Differs, Full, Memory}

-- They are, behind the waiting ones, or its file would be too long, or there was no memory.
abbrev pub AreSpelledOut : LogView → List Record → Result SpelledBatch NodeFault → Type 0
AreSpelledOut log more (Ok batch) = IsBatchOf log more batch
AreSpelledOut log more (Err (Device spot)) = ⊥
AreSpelledOut log more (Err (Differs spot at kept read)) = ⊥
AreSpelledOut log more (Err (Full spot)) = (spot ≡ log.current.spot) × IsTooLong log.gate (log.waiting ++ more)
AreSpelledOut log more (Err Memory) = Unit {0}
