-- When a log file would be too long, by its records alone.
use Rattle.std.specs.Prelude.{◌≡◌, ◌<◌, ◌⊎◌, List}
use Rattle.co_base.specs.Limits.{most_log_bytes}
use Rattle.co_record.specs.declared.record.Record.{Record}
use Rattle.co_log.specs.Sizes.{log_bytes}
use Rattle.co_plain.specs.LogWrite.{generation_of}

-- When a log file would be too long with these records, newest first, or there is no next generation.
abbrev pub IsOverlong : List Record → Type 0
IsOverlong records = (most_log_bytes < log_bytes records) ⊎ (generation_of records ≡ 4294967295)
