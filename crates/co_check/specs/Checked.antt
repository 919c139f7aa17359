-- What checking a text answers.
use Rattle.std.specs.Prelude.{ℕ, true, false, ◌≡◌, ◌+◌, List, [], ◌∷◌, ◌++◌, length, map, Option, None, Some, Result, Ok, Err}
use Rattle.co_message.specs.declared.item.Item.{Item}
use Rattle.co_schedule.specs.Limits.{most_of_text}
use Rattle.co_schedule.specs.LineText.{first_line, behind_line, next_line}
use Rattle.co_schedule.specs.declared.fault.LinesFault.{LinesFault}
use Rattle.co_schedule.specs.declared.fault.LinesFault.TheVariants as lines
use Rattle.co_serial.specs.Family.{family_of}
use Rattle.co_serial.specs.SerialRun.{AllRecords}
use Rattle.co_transcript.specs.Items.{IsItem}
use Rattle.co_transcript.specs.Spelling.{item_text}
use Rattle.co_check.specs.Account.{Account}
use Rattle.co_check.specs.declared.place.Place.{Place}
use Rattle.co_check.specs.declared.checker.Checker.{Checker}
use Rattle.co_check.specs.Kept.{Follows, IsKept}
use Rattle.co_check.specs.Shape.{Read, read, is_whole, next, next_of}
use Rattle.co_check.specs.Serial.{IsSerialFrom, IsFirstToDifferFrom, no_records, serial_from}
use Rattle.co_check.specs.declared.verdict.Ending.{Ending}
use Rattle.co_check.specs.declared.verdict.Verdict.{Verdict}
use Rattle.co_check.specs.declared.verdict.Verdict.TheVariants.{Serial, Differs}
use Rattle.co_check.specs.declared.fault.CheckFault.{CheckFault}
use Rattle.co_check.specs.declared.fault.CheckFault.TheVariants as fault

-- What lies behind these items, each of which is a line of the text: every line before it is whole, within its length, and the text of an item.
pub data StandsBehind : List ℕ → List Item → List ℕ → Type 0 where
  AtStart : (text : List ℕ) → StandsBehind text [] text
  OneMore : (text left : List ℕ) (items : List Item) (it : Item) → StandsBehind text items left → IsItem it →
      next_line most_of_text most_of_text (length items) left ≡ Ok (Some (item_text it)) → StandsBehind text (items ++ it ∷ []) (behind_line left)

-- the line is the text of no item, or of one that breaks the shape
abbrev pub BreaksShape : Option Read → List ℕ → Type 0
BreaksShape r line = (it : Item) → IsItem it → line ≡ item_text it → next_of r it ≡ None

-- the committed transactions are judged so where their serial run begins with these records
abbrev pub IsJudgedFrom : AllRecords → Account → Verdict → Type 0
IsJudgedFrom start a (Serial transactions map) = IsSerialFrom start a.committed × (transactions ≡ length a.committed) × (family_of map ≡ serial_from start a.committed)
IsJudgedFrom start a (Differs txn line told serial) = IsFirstToDifferFrom start a.committed txn line told serial

-- where it begins with none
abbrev pub IsJudgedAs : Account → Verdict → Type 0
IsJudgedAs = IsJudgedFrom no_records

-- and the committed transactions are kept, where they were to be
abbrev pub IsEndedFrom : AllRecords → Account → Ending → Type 0
IsEndedFrom start a ending = IsJudgedFrom start a ending.verdict × IsKept ending.kept a.committed

-- one more item was taken, which keeps the shape; or it breaks the shape
abbrev pub IsTakenAs : AllRecords → Read → ℕ → Item → Result Checker CheckFault → Type 0
IsTakenAs start r number it (Ok after) = (behind : Read) × (next r it ≡ Some behind) × Follows start after behind
IsTakenAs start r number it (Err (fault.Text at)) = (at ≡ number) × (next r it ≡ None)
IsTakenAs start r number it (Err fault.Memory) = Unit {0}
IsTakenAs start r number it (Err fault.Read) = ⊥
IsTakenAs start r number it (Err (fault.Long at)) = ⊥
IsTakenAs start r number it (Err fault.Many) = ⊥

-- the input ends before the line of this number
abbrev pub IsEnd : AllRecords → Read → ℕ → Result Ending CheckFault → Type 0
IsEnd start r number (Ok ending) = (is_whole r.place ≡ true) × IsEndedFrom start r.account ending
IsEnd start r number (Err (fault.Text at)) = (at ≡ number) × (is_whole r.place ≡ false)
IsEnd start r number (Err fault.Memory) = ⊥
IsEnd start r number (Err fault.Read) = ⊥
IsEnd start r number (Err (fault.Long at)) = ⊥
IsEnd start r number (Err fault.Many) = ⊥

-- All lines are items, and well shaped; the committed transactions are judged so.
pub record IsVerdict (text : List ℕ) (verdict : Verdict) : Type 0 where
  pub items : List Item
  pub account : Account
  pub place : Place
  pub all : StandsBehind text items []
  pub shaped : read items ≡ Some (record { place = place; account = account })
  pub whole : is_whole place ≡ true
  pub judged : IsJudgedAs account verdict

-- the same, with the committed transactions that were kept
pub record IsEnding (text : List ℕ) (ending : Ending) : Type 0 where
  pub items : List Item
  pub account : Account
  pub place : Place
  pub all : StandsBehind text items []
  pub shaped : read items ≡ Some (record { place = place; account = account })
  pub whole : is_whole place ≡ true
  pub judged : IsJudgedAs account ending.verdict
  pub kept : IsKept ending.kept account.committed

-- the first line that is no item or breaks the shape, or the line past the end where the last group is not whole
abbrev pub IsBroken : Option Read → List ℕ → Type 0
IsBroken None left = ⊥
IsBroken (Some r) [] = is_whole r.place ≡ false
IsBroken (Some r) (byte ∷ bytes) = BreaksShape (Some r) (first_line (byte ∷ bytes))

pub record IsTextFault (text : List ℕ) (line : ℕ) : Type 0 where
  pub items : List Item
  pub left : List ℕ
  pub front : StandsBehind text items left
  pub number : line ≡ length items + 1
  pub short : (byte : ℕ) (bytes : List ℕ) → left ≡ byte ∷ bytes → next_line most_of_text most_of_text (length items) left ≡ Ok (Some (first_line left))
  pub broken : IsBroken (read items) left

-- what a reader of lines says where it gives none
abbrev pub fault_of : Result (Option (List ℕ)) LinesFault → Option CheckFault
fault_of (Ok line) = None
fault_of (Err (lines.Long line)) = Some (fault.Long line)
fault_of (Err lines.Many) = Some fault.Many
fault_of (Err lines.Read) = None
fault_of (Err lines.Memory) = None

-- the lines before this one are items and well shaped, and the next one is too long, or is one line too many
pub record IsLineFault (text : List ℕ) (why : CheckFault) : Type 0 where
  pub items : List Item
  pub left : List ℕ
  pub front : StandsBehind text items left
  pub shaped : Read
  pub is_shaped : read items ≡ Some shaped
  pub cause : fault_of (next_line most_of_text most_of_text (length items) left) ≡ Some why

-- Checking a text answers its verdict, or the first fault in the order of the text; the source and the memory fail by themselves.
abbrev pub IsCheck : List ℕ → Result Verdict CheckFault → Type 0
IsCheck text (Ok verdict) = IsVerdict text verdict
IsCheck text (Err (fault.Text line)) = IsTextFault text line
IsCheck text (Err (fault.Long line)) = IsLineFault text (fault.Long line)
IsCheck text (Err fault.Many) = IsLineFault text fault.Many
IsCheck text (Err fault.Read) = Unit {0}
IsCheck text (Err fault.Memory) = Unit {0}

-- Reading a text answers its verdict with what was kept, or the same faults.
abbrev pub IsReading : List ℕ → Result Ending CheckFault → Type 0
IsReading text (Ok ending) = IsEnding text ending
IsReading text (Err why) = IsCheck text (Err why)

abbrev pub verdict_of : Result Ending CheckFault → Result Verdict CheckFault
verdict_of (Ok ending) = Ok ending.verdict
verdict_of (Err why) = Err why
