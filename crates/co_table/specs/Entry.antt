-- What the table tells of each item: its words, and where they stand.
use Rattle.std.specs.Prelude.{ℕ, ◌==◌, if◌then◌else◌, List, [], ◌∷◌, ◌++◌, codes, decimal}
use Rattle.co_base.specs.declared.node.Node.{Node}
use Rattle.co_message.specs.declared.item.Item.{Item}
use Rattle.co_message.specs.declared.item.ItemKind.{ItemKind}
use Rattle.co_message.specs.declared.item.ItemKind.TheVariants as item
use Rattle.co_message.specs.declared.message.Message.{Message}
use Rattle.co_message.specs.declared.message.Message.TheVariants as message
use Rattle.co_picture.specs.Course.{after, at_first}
use Rattle.co_picture.specs.Entry.{told_of}
use Rattle.co_picture.specs.Lanes.{receiver}
use Rattle.co_picture.specs.declared.course.Course.{Course}
use Rattle.co_schedule.specs.Spelling.{node_word, vote_word, decision_word, line_text, head_text}
use Rattle.co_schedule.specs.Words.{Word, behind}
use Rattle.co_table.specs.Place.{place_of}
use Rattle.co_table.specs.declared.entry.Entry.{Entry}
use Rattle.co_transcript.specs.Spelling.{item_text, mark_word}

-- a letter as a cell has it: a bar would end the cell
abbrev pub escaped_letter : ℕ → List ℕ
escaped_letter letter = if letter == 124 then 92 ∷ 124 ∷ [] else letter ∷ []

abbrev pub escaped : List ℕ → List ℕ
escaped [] = []
escaped (letter ∷ letters) = escaped_letter letter ++ escaped letters

-- an arrow to the right, in UTF-8
abbrev pub arrow : List ℕ
arrow = 226 ∷ 134 ∷ 146 ∷ []

-- a message without its sender and its receiver
abbrev pub brief_words : Message → List Word
brief_words (message.Prepare txn coord member count) = codes "prepare" ∷ decimal txn ∷ decimal count ∷ []
brief_words (message.Vote txn member coord in_favour) = codes "vote" ∷ decimal txn ∷ vote_word in_favour ∷ []
brief_words (message.Decide txn coord member commit) = codes "decide" ∷ decimal txn ∷ decision_word commit ∷ []
brief_words (message.Ask txn member coord) = codes "ask" ∷ decimal txn ∷ []
brief_words (message.Ack txn member coord) = codes "ack" ∷ decimal txn ∷ []

-- the words of an item, which has this line: of an event its own line, of a record what it is, of a message its receiver and what it says, of an
-- answer all
abbrev pub words_as : List ℕ → ItemKind → List ℕ
words_as line (item.Head head) = 96 ∷ (head_text head ++ 96 ∷ [])
words_as line (item.Event event) = 96 ∷ (line_text event ++ 96 ∷ [])
words_as line (item.Log mark) = codes "log" ++ behind (mark_word mark.kind ∷ decimal mark.number ∷ [])
words_as line (item.Sent sent) = arrow ++ behind (node_word (receiver sent) ∷ brief_words sent)
words_as line (item.Answered answer) = codes "**" ++ (told_of line (item.Answered answer) ++ codes "**")

abbrev pub words_of : Item → List ℕ
words_of it = words_as (item_text it) it.what

-- what is told of an item behind those that tell this with it
abbrev pub entry_of : List Node → Course → Item → Entry
entry_of nodes c it = record { number = it.number; place = place_of nodes c it.what; text = escaped (words_of it) }

-- what is told of each item, in their order
abbrev pub entries_from : List Node → Course → List Item → List Entry
entries_from nodes c [] = []
entries_from nodes c (it ∷ items) = entry_of nodes (after c it.what) it ∷ entries_from nodes (after c it.what) items

abbrev pub entries_of : List Node → List Item → List Entry
entries_of nodes items = entries_from nodes at_first items
