-- What is drawn of each item: its words in a lane, and an arrow.
use Rattle.std.specs.Prelude.{ℕ, Bool, true, false, ◌+◌, ◌==◌, nat_lt, if◌then◌else◌, List, [], ◌∷◌, ◌++◌, length, take, drop, position, Option, None, Some, codes, decimal}
use Rattle.co_base.specs.declared.node.Node.{Node}
use Rattle.co_message.specs.declared.message.Message.{Message}
use Rattle.co_message.specs.declared.event.Event.TheVariants as event
use Rattle.co_message.specs.declared.item.Item.{Item}
use Rattle.co_message.specs.declared.item.ItemKind.{ItemKind}
use Rattle.co_message.specs.declared.item.ItemKind.TheVariants as item
use Rattle.co_message.specs.Sent.{same_message}
use Rattle.co_transcript.specs.Spelling.{item_text}
use Rattle.co_picture.specs.Course.{decides, after, at_first}
use Rattle.co_picture.specs.Lanes.{sender}
use Rattle.co_picture.specs.declared.course.Course.{Course}
use Rattle.co_picture.specs.declared.lane.Lane.{Lane}
use Rattle.co_picture.specs.declared.lane.Lane.TheVariants.{Front, Client, At}
use Rattle.co_picture.specs.declared.entry.Entry.{Entry}
use Rattle.co_picture.specs.declared.entry.Link.{Link}
use Rattle.co_picture.specs.declared.entry.Link.TheVariants as link
use Rattle.co_picture.specs.declared.entry.Role.{Role}
use Rattle.co_picture.specs.declared.entry.Role.TheVariants as role

abbrev pub is_space : ℕ → Bool
is_space byte = byte == 32

-- what stands behind this place
abbrev pub behind_place : List ℕ → Option ℕ → List ℕ
behind_place text None = []
behind_place text (Some at) = drop (at + 1) text

-- what stands behind the first space, or nothing
abbrev pub behind_word : List ℕ → List ℕ
behind_word text = behind_place text (position is_space text)

-- the words of a line that are shown: not its number and not what it is; of a record not the node, and of a delivery not its first word
abbrev pub told_of : List ℕ → ItemKind → List ℕ
told_of line (item.Log mark) = behind_word (behind_word (behind_word line))
told_of line (item.Event (event.Deliver message)) = behind_word (behind_word (behind_word line))
told_of line _ = behind_word (behind_word line)

-- the most letters of a line that a picture shows
abbrev pub most_letters : ℕ
most_letters = 40

abbrev pub cut : List ℕ → List ℕ
cut text = if nat_lt most_letters (length text) then take most_letters text ++ codes ".." else text

-- the number of a decision
abbrev pub titled : Course → ItemKind → List ℕ
titled c (item.Log mark) = if decides c.homes mark then codes "#" ++ decimal c.decided ++ codes " " else []
titled c _ = []

abbrev pub text_of : Course → Item → List ℕ
text_of c it = titled c it.what ++ cut (told_of (item_text it) it.what)

-- whether the item is a sending of this message
abbrev pub sends_as : Message → ItemKind → Bool
sends_as message (item.Sent sent) = same_message message sent
sends_as message _ = false

abbrev pub sends : Message → Item → Bool
sends message it = sends_as message it.what

-- the row of the latest sending among these items, of which the first is in this row; or this one, where there is none
abbrev pub latest_from : ℕ → Option ℕ → List Item → Message → Option ℕ
latest_from row found [] message = found
latest_from row found (it ∷ items) message = latest_from (row + 1) (if sends message it then Some row else found) items message

abbrev pub latest : List Item → Message → Option ℕ
latest before message = latest_from 0 None before message

abbrev pub arrow_from : Node → Option ℕ → Link
arrow_from from None = link.Stub
arrow_from from (Some row) = link.Arrow from row

-- an event that a client asks for, at a node that is known
abbrev pub call_of : Lane → Option Node → Link
call_of (Client txn) (Some node) = link.Call node
call_of _ _ = link.Nothing

abbrev pub link_in : List Item → Course → ItemKind → Link
link_in before c (item.Event (event.Deliver message)) = arrow_from (sender message) (latest before message)
link_in before c (item.Event e) = call_of c.lane c.node
link_in before c _ = link.Nothing

abbrev pub lane_in : Course → ItemKind → Lane
lane_in c (item.Log mark) = At mark.node
lane_in c (item.Sent message) = At (sender message)
lane_in c _ = c.lane

abbrev pub role_of : ItemKind → Role
role_of (item.Head head) = role.Event
role_of (item.Event e) = role.Event
role_of (item.Log mark) = role.Record
role_of (item.Sent message) = role.Sending
role_of (item.Answered said) = role.Answer

-- what is drawn of an item behind these ones, which tell this with it
abbrev pub entry_of : List Item → Course → Item → Entry
entry_of before c it =
    record { number = it.number; role = role_of it.what; lane = lane_in c it.what; text = text_of c it; link = link_in before c it.what; down = c.down }

-- what is drawn of each item, in their order
abbrev pub entries_from : List Item → Course → List Item → List Entry
entries_from before c [] = []
entries_from before c (it ∷ items) = entry_of before (after c it.what) it ∷ entries_from (before ++ it ∷ []) (after c it.what) items

abbrev pub entries_of : List Item → List Entry
entries_of items = entries_from [] at_first items
