-- The one spelling of each event, as the list of its words.
use Rattle.std.specs.Prelude.{ℕ, List, [], ◌∷◌, ◌++◌, map, Bool, if◌then◌else◌, codes, decimal}
use Rattle.hex.specs.Hex.{encode_lower}
use Rattle.co_base.specs.declared.node.Node.{Node}
use Rattle.co_base.specs.declared.node.Node.TheVariants.{Member, Coord}
use Rattle.co_base.specs.declared.head.Head.{Head}
use Rattle.co_base.specs.declared.head.Kind.{Kind}
use Rattle.co_base.specs.declared.head.Kind.TheVariants.{Lock, Occ, Mv}
use Rattle.co_base.specs.declared.leaves.Leaves.{Leaves}
use Rattle.co_base.specs.declared.leaves.Leaves.TheVariants.{Old, New, Filled}
use Rattle.co_message.specs.declared.message.Message.{Message}
use Rattle.co_message.specs.declared.message.Message.TheVariants as message
use Rattle.co_message.specs.declared.event.Event.{Event}
use Rattle.co_message.specs.declared.event.Event.TheVariants as event
use Rattle.co_schedule.specs.Words.{Word, spaced}

-- `m` and the number of a member
abbrev pub member_word : ℕ → Word
member_word number = 109 ∷ decimal number

-- `c` and the number of a coordinator
abbrev pub coord_word : ℕ → Word
coord_word number = 99 ∷ decimal number

abbrev pub node_word : Node → Word
node_word (Member number) = member_word number
node_word (Coord number) = coord_word number

abbrev pub kind_word : Kind → Word
kind_word Lock = codes "lock"
kind_word Occ = codes "occ"
kind_word Mv = codes "mv"

-- the chosen image: `old`, `new`, or `x` and the digits of its bytes
abbrev pub leaves_word : Leaves → Word
leaves_word Old = codes "old"
leaves_word New = codes "new"
leaves_word (Filled bytes) = 120 ∷ encode_lower bytes

abbrev pub vote_word : Bool → Word
vote_word in_favour = if in_favour then codes "yes" else codes "no"

abbrev pub decision_word : Bool → Word
decision_word commit = if commit then codes "commit" else codes "abort"

-- a message: its kind, the transaction, the sender, the receiver, and what it says
abbrev pub message_words : Message → List Word
message_words (message.Prepare txn coord member count) = codes "prepare" ∷ decimal txn ∷ coord_word coord ∷ member_word member ∷ decimal count ∷ []
message_words (message.Vote txn member coord in_favour) = codes "vote" ∷ decimal txn ∷ member_word member ∷ coord_word coord ∷ vote_word in_favour ∷ []
message_words (message.Decide txn coord member commit) = codes "decide" ∷ decimal txn ∷ coord_word coord ∷ member_word member ∷ decision_word commit ∷ []
message_words (message.Ask txn member coord) = codes "ask" ∷ decimal txn ∷ member_word member ∷ coord_word coord ∷ []
message_words (message.Ack txn member coord) = codes "ack" ∷ decimal txn ∷ member_word member ∷ coord_word coord ∷ []

-- an event: its form, and its fields in order
abbrev pub event_words : Event → List Word
event_words (event.Begin txn coord) = codes "begin" ∷ decimal txn ∷ coord_word coord ∷ []
event_words (event.Local txn member) = codes "local" ∷ decimal txn ∷ member_word member ∷ []
event_words (event.Read txn member key) = codes "read" ∷ decimal txn ∷ member_word member ∷ key ∷ []
event_words (event.Write txn member key value) = codes "write" ∷ decimal txn ∷ member_word member ∷ key ∷ value ∷ []
event_words (event.Erase txn member key) = codes "erase" ∷ decimal txn ∷ member_word member ∷ key ∷ []
event_words (event.Scan txn member range) = codes "scan" ∷ decimal txn ∷ member_word member ∷ range.lo ∷ range.hi ∷ []
event_words (event.Commit txn) = codes "commit" ∷ decimal txn ∷ []
event_words (event.Abort txn) = codes "abort" ∷ decimal txn ∷ []
event_words (event.Deliver message) = codes "deliver" ∷ message_words message
event_words (event.Vote txn member) = codes "vote" ∷ decimal txn ∷ member_word member ∷ []
event_words (event.Timer txn node) = codes "timer" ∷ decimal txn ∷ node_word node ∷ []
event_words (event.Ask txn member) = codes "ask" ∷ decimal txn ∷ member_word member ∷ []
event_words (event.Resend txn coord) = codes "resend" ∷ decimal txn ∷ coord_word coord ∷ []
event_words (event.Crash node) = codes "crash" ∷ node_word node ∷ []
event_words (event.Restart node) = codes "restart" ∷ node_word node ∷ []
event_words (event.Arm node call leaves) = codes "arm" ∷ node_word node ∷ decimal call ∷ leaves_word leaves ∷ []
event_words (event.Checkpoint node) = codes "checkpoint" ∷ node_word node ∷ []

-- the head: the kind of each member, and the count of coordinators
abbrev pub head_words : Head → List Word
head_words head = (codes "members" ∷ map kind_word head.kinds) ++ codes "coords" ∷ decimal head.coords ∷ []

-- the line of an event, without its newline
abbrev pub line_text : Event → List ℕ
line_text event = spaced (event_words event)

-- the line of a head, without its newline
abbrev pub head_text : Head → List ℕ
head_text head = spaced (head_words head)
