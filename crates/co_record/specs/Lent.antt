-- What lent records show, and the records that they show it of.
use Rattle.std.specs.Prelude.{◌≡◌, ℕ, ◌-◌, List, ◌++◌, length, drop, map, Result, Ok, Err}
use Rattle.co_record.specs.declared.record.Record.{Record}
use Rattle.co_record.specs.declared.record.Record.TheVariants.{Header, Prepare, Commit, Abort, End, Checkpoint}
use Rattle.co_record.specs.declared.view.RecordView.{RecordView}
use Rattle.co_record.specs.declared.view.RecordView.TheVariants as views
use Rattle.co_record.specs.declared.fault.RecordFault.{RecordFault}
use Rattle.co_record.specs.declared.fault.RecordFault.TheVariants as faults
use Rattle.co_record.specs.declared.miss.Miss.{Miss}
use Rattle.co_record.specs.declared.miss.Miss.TheVariants as misses
use Rattle.co_record.specs.Reading.{span_of, row_of, record_at}
use Rattle.co_record.specs.Spelling.{spelling, IsSpelledIn}

-- the record that a view shows
abbrev pub record_of : RecordView → Record
record_of (views.Header node generation) = Header node generation
record_of (views.Prepare txn coord count reads writes) = Prepare txn coord count (map span_of reads) writes
record_of (views.Commit txn members) = Commit txn members
record_of (views.Abort txn) = Abort txn
record_of (views.End txn) = End txn
record_of (views.Checkpoint rows undos committed) = Checkpoint (map row_of rows) undos committed

-- the place of a fault, counted from the front of so many bytes
abbrev pub fault_of : ℕ → Miss → RecordFault
fault_of length misses.Short = faults.Short
fault_of length misses.Kind = faults.Kind
fault_of length (misses.Outside left) = faults.Field (length - left)

-- the record and the rest as the record and its length
abbrev pub placed : ℕ → Result (Record × List ℕ) Miss → Result (Record × ℕ) RecordFault
placed whole (Ok read) = Ok (read.0, whole - length read.1)
placed whole (Err miss) = Err (fault_of whole miss)

-- the record at the front and its length, or the first fault from the left
abbrev pub reading : ℕ → List ℕ → Result (Record × ℕ) RecordFault
reading version bytes = placed (length bytes) (record_at version bytes)

-- what was answered shows what reading gives
abbrev pub Shows : Result (RecordView × ℕ) RecordFault → Result (Record × ℕ) RecordFault → Type 0
Shows (Ok shown) read = read ≡ Ok (record_of shown.0, shown.1)
Shows (Err fault) read = read ≡ Err fault

-- the record stands at the front in this version, and takes so many bytes
pub record StandsAt (version : ℕ) (bytes : List ℕ) (item : Record) (count : ℕ) : Type 0 where
  pub spelled : IsSpelledIn version item
  pub text : bytes ≡ spelling version item ++ drop count bytes
  pub length_is : count ≡ length (spelling version item)
