-- What judging a text answers that was read from this stage on: as a transcript; or as the records from which a resumed run started, with its transcript behind
-- them.
use Rattle.std.specs.Prelude.{ℕ, true, false, ◌≡◌, ◌+◌, List, [], ◌∷◌, ◌++◌, length, Option, None, Some, Result, Ok, Err}
use Rattle.co_schedule.specs.Limits.{most_of_text}
use Rattle.co_schedule.specs.LineText.{first_line, behind_line, next_line}
use Rattle.co_serial.specs.SerialRun.{AllRecords}
use Rattle.co_check.specs.Account.{Account, no_account}
use Rattle.co_check.specs.Checked.{IsJudgedFrom, IsEndedFrom, fault_of}
use Rattle.co_check.specs.Kept.{Keeps, Follows}
use Rattle.co_check.specs.Shape.{is_whole}
use Rattle.co_check.specs.Stages.{IsEntry, entry_text, Stage, InRecords, InTranscript, at_records, next_stage, next_of, read_from, is_whole_at}
use Rattle.co_check.specs.declared.entry.Entry.{Entry}
use Rattle.co_check.specs.declared.fault.CheckFault.{CheckFault}
use Rattle.co_check.specs.declared.fault.CheckFault.TheVariants as fault
use Rattle.co_check.specs.declared.place.Place.{Place}
use Rattle.co_check.specs.declared.reader.Reader.{Reader}
use Rattle.co_check.specs.declared.reader.Reader.TheVariants as reader
use Rattle.co_check.specs.declared.verdict.Ending.{Ending}
use Rattle.co_check.specs.declared.verdict.Verdict.{Verdict}

-- What lies behind these lines of the text: every one is whole, within its length, and the text of a record or of an item.
pub data LiesBehind : List ℕ → List Entry → List ℕ → Type 0 where
  AtStart : (text : List ℕ) → LiesBehind text [] text
  OneMore : (text left : List ℕ) (entries : List Entry) (e : Entry) → LiesBehind text entries left → IsEntry e →
      next_line most_of_text most_of_text (length entries) left ≡ Ok (Some (entry_text e)) → LiesBehind text (entries ++ e ∷ []) (behind_line left)

-- the line is the text of no record and no item, or of one that may not stand there
abbrev pub MayNotStand : Option Stage → List ℕ → Type 0
MayNotStand s line = (e : Entry) → IsEntry e → line ≡ entry_text e → next_of s e ≡ None

-- for which stage a reader stands
abbrev pub Stands : Reader → Stage → Type 0
Stands (reader.Records last ledger) (InRecords name start) = (last ≡ name) × Keeps start ledger no_account
Stands (reader.Transcript checker) (InTranscript start r) = Follows start checker r
Stands (reader.Records last ledger) (InTranscript start r) = ⊥
Stands (reader.Transcript checker) (InRecords name start) = ⊥

-- one more record or item was taken: it may stand there; or it may not
abbrev pub IsEntryTaken : Stage → ℕ → Entry → Result Reader CheckFault → Type 0
IsEntryTaken s number e (Ok after) = (behind : Stage) × (next_stage s e ≡ Some behind) × Stands after behind
IsEntryTaken s number e (Err (fault.Text at)) = (at ≡ number) × (next_stage s e ≡ None)
IsEntryTaken s number e (Err fault.Memory) = Unit {0}
IsEntryTaken s number e (Err fault.Read) = ⊥
IsEntryTaken s number e (Err (fault.Long at)) = ⊥
IsEntryTaken s number e (Err fault.Many) = ⊥

-- one more line was taken
abbrev pub IsLineTaken : Stage → ℕ → List ℕ → Result Reader CheckFault → Type 0
IsLineTaken s number line (Ok after) = (e : Entry) × (behind : Stage) × IsEntry e × (line ≡ entry_text e) × (next_stage s e ≡ Some behind) × Stands after behind
IsLineTaken s number line (Err (fault.Text at)) = (at ≡ number) × MayNotStand (Some s) line
IsLineTaken s number line (Err fault.Memory) = Unit {0}
IsLineTaken s number line (Err fault.Read) = ⊥
IsLineTaken s number line (Err (fault.Long at)) = ⊥
IsLineTaken s number line (Err fault.Many) = ⊥

-- the transcript is whole, and its committed transactions are judged so behind the records of the start
abbrev pub IsEndedAt : Stage → Ending → Type 0
IsEndedAt (InRecords last start) ending = ⊥
IsEndedAt (InTranscript start r) ending = (is_whole r.place ≡ true) × IsEndedFrom start r.account ending

-- the input ends before the line of this number
abbrev pub IsEndAt : Stage → ℕ → Result Ending CheckFault → Type 0
IsEndAt s number (Ok ending) = IsEndedAt s ending
IsEndAt s number (Err (fault.Text at)) = (at ≡ number) × (is_whole_at s ≡ false)
IsEndAt s number (Err fault.Memory) = ⊥
IsEndAt s number (Err fault.Read) = ⊥
IsEndAt s number (Err (fault.Long at)) = ⊥
IsEndAt s number (Err fault.Many) = ⊥

-- ---- whole texts, read from this stage on

pub record IsEndingFrom (s : Stage) (text : List ℕ) (ending : Ending) : Type 0 where
  pub entries : List Entry
  pub last : Stage
  pub all : LiesBehind text entries []
  pub shaped : read_from (Some s) entries ≡ Some last
  pub ended : IsEndedAt last ending

-- the first line that may not stand there, or the line past the end where the last group is not whole
abbrev pub IsBrokenAt : Option Stage → List ℕ → Type 0
IsBrokenAt None left = ⊥
IsBrokenAt (Some s) [] = is_whole_at s ≡ false
IsBrokenAt (Some s) (byte ∷ bytes) = MayNotStand (Some s) (first_line (byte ∷ bytes))

pub record IsTextFaultFrom (s : Stage) (text : List ℕ) (line : ℕ) : Type 0 where
  pub entries : List Entry
  pub left : List ℕ
  pub front : LiesBehind text entries left
  pub number : line ≡ length entries + 1
  pub short : (byte : ℕ) (bytes : List ℕ) → left ≡ byte ∷ bytes → next_line most_of_text most_of_text (length entries) left ≡ Ok (Some (first_line left))
  pub broken : IsBrokenAt (read_from (Some s) entries) left

-- the lines before this one may stand there, and the next one is too long, or is one line too many
pub record IsLineFaultFrom (s : Stage) (text : List ℕ) (why : CheckFault) : Type 0 where
  pub entries : List Entry
  pub left : List ℕ
  pub front : LiesBehind text entries left
  pub last : Stage
  pub shaped : read_from (Some s) entries ≡ Some last
  pub cause : fault_of (next_line most_of_text most_of_text (length entries) left) ≡ Some why

abbrev pub IsFaultFrom : Stage → List ℕ → CheckFault → Type 0
IsFaultFrom s text (fault.Text line) = IsTextFaultFrom s text line
IsFaultFrom s text (fault.Long line) = IsLineFaultFrom s text (fault.Long line)
IsFaultFrom s text fault.Many = IsLineFaultFrom s text fault.Many
IsFaultFrom s text fault.Read = Unit {0}
IsFaultFrom s text fault.Memory = Unit {0}

abbrev pub IsReadingFrom : Stage → List ℕ → Result Ending CheckFault → Type 0
IsReadingFrom s text (Ok ending) = IsEndingFrom s text ending
IsReadingFrom s text (Err why) = IsFaultFrom s text why

-- ---- a resumed run

-- The lines are the records from which it started, and then its transcript, well shaped to its end. The committed transactions of the transcript are judged so,
-- by a serial run that begins with these records.
pub record IsResumedVerdict (text : List ℕ) (verdict : Verdict) : Type 0 where
  pub entries : List Entry
  pub start : AllRecords
  pub account : Account
  pub place : Place
  pub all : LiesBehind text entries []
  pub shaped : read_from (Some at_records) entries ≡ Some (InTranscript start (record { place = place; account = account }))
  pub whole : is_whole place ≡ true
  pub judged : IsJudgedFrom start account verdict

-- Judging such a text answers its verdict, or the first fault in the order of the text; the source and the memory fail by themselves.
abbrev pub IsResumedCheck : List ℕ → Result Verdict CheckFault → Type 0
IsResumedCheck text (Ok verdict) = IsResumedVerdict text verdict
IsResumedCheck text (Err why) = IsFaultFrom at_records text why
