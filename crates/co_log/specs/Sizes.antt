-- How long a log file is.
use Rattle.std.specs.Prelude.{ℕ, ◌+◌, List, [], ◌∷◌, length}
use Rattle.co_record.specs.Format.{newest}
use Rattle.co_record.specs.Spelling.{spelling}
use Rattle.co_record.specs.declared.record.Record.{Record}

-- The bytes of a log file with these records, each of them in a batch of its own, and a gate behind the last. In fewer batches they take fewer.
abbrev pub log_bytes : List Record → ℕ
log_bytes [] = 1
log_bytes (item ∷ items) = 5 + length (spelling newest item) + log_bytes items
