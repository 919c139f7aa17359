-- What the lines before the next one come to, and what that one leaves.
use Rattle.std.specs.Prelude.{ℕ, ◌≡◌, ◌+◌, ◌≤◌, List, length, Option, Some, Result, Ok, Err}
use Rattle.co_schedule.specs.Lines.{most_bytes, most_lines, lines_read, ahead}
use Rattle.co_schedule.specs.declared.fault.LinesFault.{LinesFault}
use Rattle.co_schedule.specs.declared.fault.LinesFault.TheVariants as lines
use Rattle.co_schedule.specs.declared.lines.Lines.{Lines}
use Rattle.co_check.specs.declared.entry.Entry.{Entry}
use Rattle.co_check.specs.declared.fault.CheckFault.{CheckFault}
use Rattle.co_check.specs.declared.fault.CheckFault.TheVariants as fault
use Rattle.co_check.specs.declared.ledger.Ledger.{Ledger}
use Rattle.co_check.specs.declared.lines.Step.{Step}
use Rattle.co_check.specs.declared.lines.Step.TheVariants.{Further, Judged}
use Rattle.co_check.specs.declared.reader.Reader.{Reader}
use Rattle.co_check.specs.declared.reader.Reader.TheVariants as reader
use Rattle.co_check.specs.declared.verdict.Ending.{Ending}
use Rattle.co_schedule.specs.Limits.{most_of_text}
use Rattle.co_check.specs.Resumed.{LiesBehind, Stands, IsReadingFrom}
use Rattle.co_check.specs.Stages.{Stage, read_from}

-- the reader has the limits of a transcript, and its next line has this number
pub record IsWithin (number : ℕ) (lines : Lines) : Type 0 where
  pub bytes : most_bytes lines ≡ most_of_text
  pub most : most_lines lines ≡ most_of_text
  pub is_number : lines_read lines + 1 ≡ number

-- all lines that were read from this stage on may stand there; the reader stands where they lead
pub record HasTaken (s : Stage) (text : List ℕ) (lines : Lines) (left : Option (List ℕ)) (reader : Reader) : Type 0 where
  pub entries : List Entry
  pub rest : List ℕ
  pub last : Stage
  pub front : LiesBehind text entries rest
  pub is_shaped : read_from (Some s) entries ≡ Some last
  pub stands : Stands reader last
  pub is_rest : ahead lines left ≡ Some rest
  pub count : lines_read lines ≡ length entries

-- one more line keeps this, or the text is judged
abbrev pub IsStep : Stage → List ℕ → Lines → Option (List ℕ) → Result Step CheckFault → Type 0
IsStep s text lines left (Ok (Further reader)) = HasTaken s text lines left reader
IsStep s text lines left (Ok (Judged ending)) = IsReadingFrom s text (Ok ending)
IsStep s text lines left (Err why) = IsReadingFrom s text (Err why)

abbrev pub ledger_of : Reader → Ledger
ledger_of (reader.Records last ledger) = ledger
ledger_of (reader.Transcript checker) = checker.ledger

-- how many transactions are committed so far
abbrev pub decided_by : Reader → ℕ
decided_by reader = (ledger_of reader).transactions

-- one more line is counted, and tells of one transaction at most
abbrev pub IsFurther : ℕ → Reader → Lines → Result Step CheckFault → Type 0
IsFurther number old lines (Ok (Further reader)) = IsWithin (number + 1) lines × (decided_by reader ≤ decided_by old + 1)
IsFurther number old lines (Ok (Judged ending)) = Unit {0}
IsFurther number old lines (Err why) = Unit {0}

-- what a reader of lines says is the fault
abbrev pub told_as : LinesFault → CheckFault
told_as (lines.Long line) = fault.Long line
told_as lines.Many = fault.Many
told_as lines.Read = fault.Read
told_as lines.Memory = fault.Memory

-- the step of a line that was taken so
abbrev pub further_of : Result Reader CheckFault → Result Step CheckFault
further_of (Ok after) = Ok (Further after)
further_of (Err why) = Err why

-- the step at the end
abbrev pub judged_of : Result Ending CheckFault → Result Step CheckFault
judged_of (Ok ending) = Ok (Judged ending)
judged_of (Err why) = Err why
