-- How long the reply to a scan is in a transcript, how many events a transcript numbers, and which keys they write.
use Rattle.std.specs.Prelude.{ℕ, ◌≤◌, List, [], ◌∷◌, ◌++◌, length}
use Rattle.co_base.specs.declared.reply.Reply.TheVariants as reply
use Rattle.co_message.specs.declared.answer.Answer.TheVariants as answer
use Rattle.co_message.specs.declared.event.Event.{Event}
use Rattle.co_message.specs.declared.event.Event.TheVariants as event
use Rattle.co_message.specs.declared.item.Item.{Item}
use Rattle.co_message.specs.declared.item.ItemKind.{ItemKind}
use Rattle.co_message.specs.declared.item.ItemKind.TheVariants as item
use Rattle.co_transcript.specs.Items.{IsItem}
use Rattle.co_transcript.specs.Spelling.{item_text}

-- the reply to a scan has no more records than a count of 32 bits tells
abbrev pub TellsFewRows : ItemKind → Type 0
TellsFewRows (item.Answered (answer.Replied (reply.Rows rows))) = length rows ≤ 4294967295
TellsFewRows _ = Unit {0}

abbrev pub HasFewRows : Item → Type 0
HasFewRows i = TellsFewRows i.what

-- an item that has a line, unless it is the reply to a scan of more records
abbrev pub IsItemOfFewRows : Item → Type 0
IsItemOfFewRows i = HasFewRows i → IsItem i

-- these bytes are at most so many, where they are the line of the reply to a scan
abbrev pub IsWithinIfScan : ℕ → ItemKind → ℕ → Type 0
IsWithinIfScan most (item.Answered (answer.Replied (reply.Rows rows))) bytes = bytes ≤ most
IsWithinIfScan most _ bytes = Unit {0}

-- the reply to a scan has a line of at most so many bytes
abbrev pub HasShortScan : ℕ → Item → Type 0
HasShortScan most i = IsWithinIfScan most i.what (length (item_text i))

-- so many events have lines whose numbers, behind that of the head, stand in 32 bits
abbrev pub most_numbered : ℕ
most_numbered = 4294967294

-- the key that an event writes or erases
abbrev pub key_written : Event → List (List ℕ)
key_written (event.Write t m key value) = key ∷ []
key_written (event.Erase t m key) = key ∷ []
key_written _ = []

abbrev pub keys_written : List Event → List (List ℕ)
keys_written [] = []
keys_written (e ∷ es) = key_written e ++ keys_written es
