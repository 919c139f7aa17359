-- The event that a view of a line stands for, and the events that a federation has lines for.
use Rattle.std.specs.Prelude.{ℕ, ◌≤◌, ◌≡◌, false, true, List, [], ◌∷◌, codes, decimal}
use Rattle.std.specs.Result.{result_unwrap_or}
use Rattle.std.specs.Ordering.{is_gt}
use Rattle.hex.specs.Hex.{decode_of, IsBytes}
use Rattle.co_base.specs.Letters.{IsText, most_key_bytes, most_value_bytes}
use Rattle.co_base.specs.Order.{key_cmp}
use Rattle.co_base.specs.declared.node.Node.{Node}
use Rattle.co_base.specs.declared.node.Node.TheVariants.{Member, Coord}
use Rattle.co_base.specs.declared.leaves.Leaves.{Leaves}
use Rattle.co_base.specs.declared.leaves.Leaves.TheVariants as leaves
use Rattle.co_message.specs.declared.message.Message.{Message}
use Rattle.co_message.specs.declared.message.Message.TheVariants as message
use Rattle.co_message.specs.declared.event.Event.{Event}
use Rattle.co_message.specs.declared.event.Event.TheVariants as event
use Rattle.co_schedule.specs.Words.{Word}
use Rattle.co_schedule.specs.Spelling.{member_word, coord_word, node_word, message_words}
use Rattle.co_schedule.specs.Places.{is_hex, is_text}
use Rattle.co_schedule.specs.declared.view.LineView.{LineView}
use Rattle.co_schedule.specs.declared.view.LineView.TheVariants as view
use Rattle.co_schedule.specs.declared.view.LeavesView.{LeavesView}
use Rattle.co_schedule.specs.declared.view.LeavesView.TheVariants as lent

-- the bytes that digits stand for
abbrev pub decoded : List ℕ → List ℕ
decoded digits = result_unwrap_or (decode_of digits) []

abbrev pub leaves_of : LeavesView → Leaves
leaves_of lent.Old = leaves.Old
leaves_of lent.New = leaves.New
leaves_of (lent.Digits digits) = leaves.Filled (decoded digits.now)

-- the event of a view
abbrev pub event_of : LineView → Event
event_of (view.Begin txn coord) = event.Begin txn coord
event_of (view.Local txn member) = event.Local txn member
event_of (view.Read txn member key) = event.Read txn member key.now
event_of (view.Write txn member key value) = event.Write txn member key.now value.now
event_of (view.Erase txn member key) = event.Erase txn member key.now
event_of (view.Scan txn member lo hi) = event.Scan txn member (record { lo = lo.now; hi = hi.now })
event_of (view.Commit txn) = event.Commit txn
event_of (view.Abort txn) = event.Abort txn
event_of (view.Deliver message) = event.Deliver message
event_of (view.Vote txn member) = event.Vote txn member
event_of (view.Timer txn node) = event.Timer txn node
event_of (view.Ask txn member) = event.Ask txn member
event_of (view.Resend txn coord) = event.Resend txn coord
event_of (view.Crash node) = event.Crash node
event_of (view.Restart node) = event.Restart node
event_of (view.Arm node call leaves) = event.Arm node call (leaves_of leaves)
event_of (view.Checkpoint node) = event.Checkpoint node

-- a number of a node, from 1 on
abbrev pub IsWithin : ℕ → ℕ → ℕ → Type 0
IsWithin low high number = (low ≤ number) × (number ≤ high)

abbrev pub IsNode : ℕ → ℕ → Node → Type 0
IsNode members coords (Member number) = IsWithin 1 members number
IsNode members coords (Coord number) = IsWithin 1 coords number

abbrev pub IsTxn : ℕ → Type 0
IsTxn txn = txn ≤ 4294967295

abbrev pub IsCount : ℕ → Type 0
IsCount count = count ≤ 65535

abbrev pub IsLeaves : Leaves → Type 0
IsLeaves leaves.Old = Unit {0}
IsLeaves leaves.New = Unit {0}
IsLeaves (leaves.Filled bytes) = IsBytes bytes

abbrev pub IsKey : List ℕ → Type 0
IsKey = IsText most_key_bytes

-- the fields of a message are in their sets
abbrev pub IsMessageFor : ℕ → ℕ → Message → Type 0
IsMessageFor members coords (message.Prepare txn coord member count) = IsTxn txn × IsWithin 1 coords coord × IsWithin 1 members member × IsCount count
IsMessageFor members coords (message.Vote txn member coord in_favour) = IsTxn txn × IsWithin 1 members member × IsWithin 1 coords coord
IsMessageFor members coords (message.Decide txn coord member commit) = IsTxn txn × IsWithin 1 coords coord × IsWithin 1 members member
IsMessageFor members coords (message.Ask txn member coord) = IsTxn txn × IsWithin 1 members member × IsWithin 1 coords coord
IsMessageFor members coords (message.Ack txn member coord) = IsTxn txn × IsWithin 1 members member × IsWithin 1 coords coord

-- the fields of an event are in their sets
abbrev pub IsEventFor : ℕ → ℕ → Event → Type 0
IsEventFor members coords (event.Begin txn coord) = IsTxn txn × IsWithin 1 coords coord
IsEventFor members coords (event.Local txn member) = IsTxn txn × IsWithin 1 members member
IsEventFor members coords (event.Read txn member key) = IsTxn txn × IsWithin 1 members member × IsKey key
IsEventFor members coords (event.Write txn member key value) = IsTxn txn × IsWithin 1 members member × IsKey key × IsText most_value_bytes value
IsEventFor members coords (event.Erase txn member key) = IsTxn txn × IsWithin 1 members member × IsKey key
IsEventFor members coords (event.Scan txn member range) = IsTxn txn × IsWithin 1 members member × IsKey range.lo × IsKey range.hi × (is_gt (key_cmp range.lo range.hi) ≡ false)
IsEventFor members coords (event.Commit txn) = IsTxn txn
IsEventFor members coords (event.Abort txn) = IsTxn txn
IsEventFor members coords (event.Deliver message) = IsMessageFor members coords message
IsEventFor members coords (event.Vote txn member) = IsTxn txn × IsWithin 1 members member
IsEventFor members coords (event.Timer txn node) = IsTxn txn × IsNode members coords node
IsEventFor members coords (event.Ask txn member) = IsTxn txn × IsWithin 1 members member
IsEventFor members coords (event.Resend txn coord) = IsTxn txn × IsWithin 1 coords coord
IsEventFor members coords (event.Crash node) = IsNode members coords node
IsEventFor members coords (event.Restart node) = IsNode members coords node
IsEventFor members coords (event.Arm node call leaves) = IsNode members coords node × IsWithin 1 4 call × IsLeaves leaves
IsEventFor members coords (event.Checkpoint node) = IsNode members coords node

-- the word that the image was lent from
abbrev pub view_word : LeavesView → List ℕ
view_word lent.Old = codes "old"
view_word lent.New = codes "new"
view_word (lent.Digits digits) = 120 ∷ digits.now

abbrev pub IsSpelledLeaves : LeavesView → Type 0
IsSpelledLeaves lent.Old = Unit {0}
IsSpelledLeaves lent.New = Unit {0}
IsSpelledLeaves (lent.Digits digits) = is_hex digits.now ≡ true

-- the words that a view was lent from
abbrev pub view_words : LineView → List Word
view_words (view.Begin txn coord) = codes "begin" ∷ decimal txn ∷ coord_word coord ∷ []
view_words (view.Local txn member) = codes "local" ∷ decimal txn ∷ member_word member ∷ []
view_words (view.Read txn member key) = codes "read" ∷ decimal txn ∷ member_word member ∷ key.now ∷ []
view_words (view.Write txn member key value) = codes "write" ∷ decimal txn ∷ member_word member ∷ key.now ∷ value.now ∷ []
view_words (view.Erase txn member key) = codes "erase" ∷ decimal txn ∷ member_word member ∷ key.now ∷ []
view_words (view.Scan txn member lo hi) = codes "scan" ∷ decimal txn ∷ member_word member ∷ lo.now ∷ hi.now ∷ []
view_words (view.Commit txn) = codes "commit" ∷ decimal txn ∷ []
view_words (view.Abort txn) = codes "abort" ∷ decimal txn ∷ []
view_words (view.Deliver message) = codes "deliver" ∷ message_words message
view_words (view.Vote txn member) = codes "vote" ∷ decimal txn ∷ member_word member ∷ []
view_words (view.Timer txn node) = codes "timer" ∷ decimal txn ∷ node_word node ∷ []
view_words (view.Ask txn member) = codes "ask" ∷ decimal txn ∷ member_word member ∷ []
view_words (view.Resend txn coord) = codes "resend" ∷ decimal txn ∷ coord_word coord ∷ []
view_words (view.Crash node) = codes "crash" ∷ node_word node ∷ []
view_words (view.Restart node) = codes "restart" ∷ node_word node ∷ []
view_words (view.Arm node call leaves) = codes "arm" ∷ node_word node ∷ decimal call ∷ view_word leaves ∷ []
view_words (view.Checkpoint node) = codes "checkpoint" ∷ node_word node ∷ []

-- what was lent is in its sets
abbrev pub IsViewFor : ℕ → ℕ → LineView → Type 0
IsViewFor members coords (view.Begin txn coord) = IsTxn txn × IsWithin 1 coords coord
IsViewFor members coords (view.Local txn member) = IsTxn txn × IsWithin 1 members member
IsViewFor members coords (view.Read txn member key) = IsTxn txn × IsWithin 1 members member × (is_text most_key_bytes key.now ≡ true)
IsViewFor members coords (view.Write txn member key value) = IsTxn txn × IsWithin 1 members member × (is_text most_key_bytes key.now ≡ true) × (is_text most_value_bytes value.now ≡ true)
IsViewFor members coords (view.Erase txn member key) = IsTxn txn × IsWithin 1 members member × (is_text most_key_bytes key.now ≡ true)
IsViewFor members coords (view.Scan txn member lo hi) = IsTxn txn × IsWithin 1 members member × (is_text most_key_bytes lo.now ≡ true) × (is_text most_key_bytes hi.now ≡ true) × (is_gt (key_cmp lo.now hi.now) ≡ false)
IsViewFor members coords (view.Commit txn) = IsTxn txn
IsViewFor members coords (view.Abort txn) = IsTxn txn
IsViewFor members coords (view.Deliver message) = IsMessageFor members coords message
IsViewFor members coords (view.Vote txn member) = IsTxn txn × IsWithin 1 members member
IsViewFor members coords (view.Timer txn node) = IsTxn txn × IsNode members coords node
IsViewFor members coords (view.Ask txn member) = IsTxn txn × IsWithin 1 members member
IsViewFor members coords (view.Resend txn coord) = IsTxn txn × IsWithin 1 coords coord
IsViewFor members coords (view.Crash node) = IsNode members coords node
IsViewFor members coords (view.Restart node) = IsNode members coords node
IsViewFor members coords (view.Arm node call leaves) = IsNode members coords node × IsWithin 1 4 call × IsSpelledLeaves leaves
IsViewFor members coords (view.Checkpoint node) = IsNode members coords node

-- the texts that a view lends are texts, its range is none that ends below its start, and its digits are those of bytes
abbrev pub IsLent : LineView → Type 0
IsLent (view.Read txn member key) = IsKey key.now
IsLent (view.Write txn member key value) = IsKey key.now × IsText most_value_bytes value.now
IsLent (view.Erase txn member key) = IsKey key.now
IsLent (view.Scan txn member lo hi) = IsKey lo.now × IsKey hi.now × (is_gt (key_cmp lo.now hi.now) ≡ false)
IsLent (view.Arm node call leaves) = IsSpelledLeaves leaves
IsLent _ = Unit {0}
