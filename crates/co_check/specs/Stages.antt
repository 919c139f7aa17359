-- Lines one after another: records, or the items of a transcript, which may begin behind records.
use Rattle.std.specs.Prelude.{ℕ, suc, zero, Bool, false, ◌==◌, List, [], ◌∷◌, ◌++◌, length, if◌then◌else◌, Option, None, Some}
use Rattle.co_base.specs.declared.head.Head.{Head}
use Rattle.co_base.specs.declared.node.Node.{Node}
use Rattle.co_base.specs.declared.node.Node.TheVariants as node
use Rattle.co_message.specs.declared.item.Item.{Item}
use Rattle.co_message.specs.declared.item.ItemKind.{ItemKind}
use Rattle.co_message.specs.declared.item.ItemKind.TheVariants as item
use Rattle.co_serial.specs.SerialRun.{AllRecords}
use Rattle.co_transcript.specs.Items.{IsItem}
use Rattle.co_transcript.specs.Spelling.{item_text}
use Rattle.co_check.specs.Account.{no_account}
use Rattle.co_check.specs.Serial.{no_records}
use Rattle.co_check.specs.Shape.{Read, next, unread, is_whole}
use Rattle.co_check.specs.Starts.{IsRecord, record_text, name_of, is_behind, laid_in}
use Rattle.co_check.specs.declared.entry.Entry.{Entry}
use Rattle.co_check.specs.declared.entry.Entry.TheVariants as entry
use Rattle.co_check.specs.declared.place.Place.TheVariants.{InHead}
use Rattle.co_check.specs.declared.starting.RecordName.{RecordName}

-- the fields of what a line tells are in their sets
abbrev pub IsEntry : Entry → Type 0
IsEntry (entry.Record row) = IsRecord row
IsEntry (entry.Item it) = IsItem it

-- its line without the newline
abbrev pub entry_text : Entry → List ℕ
entry_text (entry.Record row) = record_text row
entry_text (entry.Item it) = item_text it

-- Which lines were read: records of the start alone, the last of which has this name; or lines of a transcript too, which stand behind the records of the start.
pub data Stage : Type 0 where
  InRecords : Option RecordName → AllRecords → Stage
  InTranscript : AllRecords → Read → Stage

-- nothing was read of a transcript; nothing was read of records with a transcript behind them
abbrev pub at_transcript : Stage
at_transcript = InTranscript no_records unread

abbrev pub at_records : Stage
at_records = InRecords None no_records

abbrev pub members_to : ℕ → List Node
members_to zero = []
members_to (suc n) = members_to n ++ node.Member (suc n) ∷ []

abbrev pub coords_to : ℕ → List Node
coords_to zero = []
coords_to (suc n) = coords_to n ++ node.Coord (suc n) ∷ []

abbrev pub nodes_of : Head → List Node
nodes_of head = members_to (length head.kinds) ++ coords_to head.coords

-- the head that is the first item of a transcript
abbrev pub head_in : ItemKind → Option Head
head_in (item.Head head) = Some head
head_in _ = None

abbrev pub first_head : Item → Option Head
first_head it = if it.number == 1 then head_in it.what else None

-- The first line behind the records is a head. A resumed run makes new logs for those nodes alone that had none, so a header of no node is wanted.
abbrev pub behind_records : AllRecords → Option Head → Option Stage
behind_records start None = None
behind_records start (Some head) = Some (InTranscript start (record { place = InHead head (nodes_of head) false; account = no_account }))

abbrev pub read_on : AllRecords → Option Read → Option Stage
read_on start None = None
read_on start (Some r) = Some (InTranscript start r)

-- one more line, or none where it may not stand there
abbrev pub next_stage : Stage → Entry → Option Stage
next_stage (InRecords last start) (entry.Record row) = if is_behind last row then Some (InRecords (Some (name_of row)) (laid_in start row)) else None
next_stage (InRecords last start) (entry.Item it) = behind_records start (first_head it)
next_stage (InTranscript start r) (entry.Record row) = None
next_stage (InTranscript start r) (entry.Item it) = read_on start (next r it)

-- lines one after another, up to one that may not stand there
abbrev pub next_of : Option Stage → Entry → Option Stage
next_of None e = None
next_of (Some s) e = next_stage s e

abbrev pub read_from : Option Stage → List Entry → Option Stage
read_from s [] = s
read_from s (e ∷ entries) = read_from (next_of s e) entries

-- the last group of the transcript is whole
abbrev pub is_whole_at : Stage → Bool
is_whole_at (InRecords last start) = false
is_whole_at (InTranscript start r) = is_whole r.place
