-- What reading a transcript answers.
use Rattle.std.specs.Prelude.{ℕ, true, false, ◌≡◌, ◌+◌, ◌≤◌, List, [], ◌∷◌, ◌++◌, length, Option, None, Some, Result, Ok, Err}
use Rattle.co_message.specs.declared.item.Item.{Item}
use Rattle.co_schedule.specs.Limits.{most_of_text}
use Rattle.co_schedule.specs.LineText.{first_line, behind_line, next_line}
use Rattle.co_schedule.specs.Lines.{most_bytes, most_lines, lines_read, ahead}
use Rattle.co_schedule.specs.declared.fault.LinesFault.{LinesFault}
use Rattle.co_schedule.specs.declared.fault.LinesFault.TheVariants as lines
use Rattle.co_schedule.specs.declared.lines.Lines.{Lines}
use Rattle.co_transcript.specs.Items.{IsItem}
use Rattle.co_transcript.specs.Spelling.{item_text}
use Rattle.co_picture.specs.Shape.{next_of, stand_of, is_whole}
use Rattle.co_picture.specs.declared.stand.Stand.{Stand}
use Rattle.co_picture.specs.declared.fault.DrawFault.{DrawFault}
use Rattle.co_picture.specs.declared.fault.DrawFault.TheVariants as fault
use Rattle.co_picture.specs.declared.reading.Reader.{Reader}
use Rattle.co_picture.specs.declared.reading.Step.{Step}
use Rattle.co_picture.specs.declared.reading.Step.TheVariants.{Further, Whole}

-- the most lines of a transcript that is drawn
abbrev pub most_lines_drawn : ℕ
most_lines_drawn = 10000

-- what is next of a text, of which so many lines were read
abbrev pub next_drawn : ℕ → List ℕ → Result (Option (List ℕ)) LinesFault
next_drawn = next_line most_of_text most_lines_drawn

-- What lies behind these items, each of which is a line of the text: every line before it is whole, within its length, and the text of an item.
pub data StandsBehind : List ℕ → List Item → List ℕ → Type 0 where
  AtStart : (text : List ℕ) → StandsBehind text [] text
  OneMore : (text left : List ℕ) (items : List Item) (it : Item) → StandsBehind text items left → IsItem it →
      next_drawn (length items) left ≡ Ok (Some (item_text it)) → StandsBehind text (items ++ it ∷ []) (behind_line left)

-- the reader holds these items, which keep the shape
pub record Follows (reader : Reader) (items : List Item) : Type 0 where
  pub same : reader.items ≡ items
  pub shaped : stand_of items ≡ Some reader.stand

-- the line is the text of no item, or of one that breaks the shape behind these items
abbrev pub BreaksShape : List Item → List ℕ → Type 0
BreaksShape items line = (it : Item) → IsItem it → line ≡ item_text it → next_of (stand_of items) it ≡ None

-- one more item was taken, which keeps the shape; or it breaks the shape
abbrev pub IsTakenAs : List Item → ℕ → Item → Result Reader DrawFault → Type 0
IsTakenAs items number it (Ok after) = Follows after (items ++ it ∷ [])
IsTakenAs items number it (Err (fault.Text at)) = (at ≡ number) × (next_of (stand_of items) it ≡ None)
IsTakenAs items number it (Err fault.Memory) = Unit {0}
IsTakenAs items number it (Err _) = ⊥

-- one more line was taken: it is the text of an item that keeps the shape; or it is no such line
abbrev pub IsTaken : List Item → ℕ → List ℕ → Result Reader DrawFault → Type 0
IsTaken items number line (Ok after) = (it : Item) × IsItem it × (line ≡ item_text it) × Follows after (items ++ it ∷ [])
IsTaken items number line (Err (fault.Text at)) = (at ≡ number) × BreaksShape items line
IsTaken items number line (Err fault.Memory) = Unit {0}
IsTaken items number line (Err _) = ⊥

-- the last group is whole, or cut
abbrev pub IsWholeAt : Option Stand → Type 0
IsWholeAt None = ⊥
IsWholeAt (Some s) = is_whole s ≡ true

abbrev pub IsCutAt : Option Stand → Type 0
IsCutAt None = ⊥
IsCutAt (Some s) = is_whole s ≡ false

-- the input ends before the line of this number
abbrev pub IsEnd : List Item → ℕ → Result (List Item) DrawFault → Type 0
IsEnd items number (Ok read) = (read ≡ items) × IsWholeAt (stand_of items)
IsEnd items number (Err (fault.Text at)) = (at ≡ number) × IsCutAt (stand_of items)
IsEnd items number (Err _) = ⊥

-- All lines are items, and well shaped.
pub record IsTranscript (text : List ℕ) (items : List Item) : Type 0 where
  pub all : StandsBehind text items []
  pub whole : IsWholeAt (stand_of items)

-- the first line that is no item or breaks the shape, or the line past the end where the last group is not whole
abbrev pub IsBroken : List Item → List ℕ → Type 0
IsBroken items [] = IsCutAt (stand_of items)
IsBroken items (byte ∷ bytes) = BreaksShape items (first_line (byte ∷ bytes))

pub record IsTextFault (text : List ℕ) (line : ℕ) : Type 0 where
  pub items : List Item
  pub left : List ℕ
  pub front : StandsBehind text items left
  pub number : line ≡ length items + 1
  pub short : (byte : ℕ) (bytes : List ℕ) → left ≡ byte ∷ bytes → next_drawn (length items) left ≡ Ok (Some (first_line left))
  pub broken : IsBroken items left

-- what a reader of lines says where it gives none
abbrev pub fault_of : Result (Option (List ℕ)) LinesFault → Option DrawFault
fault_of (Ok line) = None
fault_of (Err (lines.Long line)) = Some (fault.Long line)
fault_of (Err lines.Many) = Some fault.Many
fault_of (Err lines.Read) = None
fault_of (Err lines.Memory) = None

-- the lines before this one are items and well shaped, and the next one is too long, or is one line too many
pub record IsLineFault (text : List ℕ) (why : DrawFault) : Type 0 where
  pub items : List Item
  pub left : List ℕ
  pub front : StandsBehind text items left
  pub stand : Stand
  pub shaped : stand_of items ≡ Some stand
  pub cause : fault_of (next_drawn (length items) left) ≡ Some why

-- Reading a text answers its items, or the first fault in the order of the text; the source and the memory fail by themselves.
abbrev pub IsRead : List ℕ → Result (List Item) DrawFault → Type 0
IsRead text (Ok items) = IsTranscript text items
IsRead text (Err (fault.Text line)) = IsTextFault text line
IsRead text (Err (fault.Long line)) = IsLineFault text (fault.Long line)
IsRead text (Err fault.Many) = IsLineFault text fault.Many
IsRead text (Err fault.Read) = Unit {0}
IsRead text (Err fault.Memory) = Unit {0}
IsRead text (Err fault.Write) = ⊥

-- ---- between two lines

-- the reader of lines has the limits of a transcript that is drawn, and its next line has this number
pub record IsWithin (number : ℕ) (lines : Lines) : Type 0 where
  pub bytes : most_bytes lines ≡ most_of_text
  pub most : most_lines lines ≡ most_lines_drawn
  pub is_number : lines_read lines + 1 ≡ number

-- all lines that were read are items, and well shaped
pub record HasTaken (text : List ℕ) (lines : Lines) (left : Option (List ℕ)) (reader : Reader) : Type 0 where
  pub items : List Item
  pub rest : List ℕ
  pub front : StandsBehind text items rest
  pub follows : Follows reader items
  pub is_rest : ahead lines left ≡ Some rest
  pub count : lines_read lines ≡ length items

-- one more line keeps this, or the text is read
abbrev pub IsStep : List ℕ → Lines → Option (List ℕ) → Result Step DrawFault → Type 0
IsStep text lines left (Ok (Further reader)) = HasTaken text lines left reader
IsStep text lines left (Ok (Whole items)) = IsRead text (Ok items)
IsStep text lines left (Err why) = IsRead text (Err why)

-- one more line is counted
abbrev pub IsFurther : ℕ → Reader → Lines → Result Step DrawFault → Type 0
IsFurther number old lines (Ok (Further reader)) = IsWithin (number + 1) lines × (length reader.items ≤ length old.items + 1)
IsFurther number old lines (Ok (Whole items)) = length items ≤ length old.items
IsFurther number old lines (Err why) = Unit {0}

-- what a reader of lines says is the fault
abbrev pub told_as : LinesFault → DrawFault
told_as (lines.Long line) = fault.Long line
told_as lines.Many = fault.Many
told_as lines.Read = fault.Read
told_as lines.Memory = fault.Memory

-- the step of a line that was taken so
abbrev pub further_of : Result Reader DrawFault → Result Step DrawFault
further_of (Ok after) = Ok (Further after)
further_of (Err why) = Err why

-- the step at the end
abbrev pub whole_of : Result (List Item) DrawFault → Result Step DrawFault
whole_of (Ok items) = Ok (Whole items)
whole_of (Err why) = Err why
