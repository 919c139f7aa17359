-- The items that a transcript has lines for.
use Rattle.std.specs.Prelude.{◌≤◌, List, [], ◌∷◌, length, Some, None}
use Rattle.co_base.specs.Letters.{IsText, most_value_bytes}
use Rattle.co_base.specs.RowOrder.{IsInKeyOrder}
use Rattle.co_base.specs.declared.row.Row.{Row}
use Rattle.co_base.specs.declared.reply.Reply.{Reply}
use Rattle.co_base.specs.declared.reply.Reply.TheVariants as reply
use Rattle.co_base.specs.declared.mark.Mark.{Mark}
use Rattle.co_base.specs.Limits.{most_coordinators, most_members}
use Rattle.co_message.specs.declared.answer.Answer.{Answer}
use Rattle.co_message.specs.declared.answer.Answer.TheVariants as answer
use Rattle.co_message.specs.declared.item.Item.{Item}
use Rattle.co_message.specs.declared.item.ItemKind.{ItemKind}
use Rattle.co_message.specs.declared.item.ItemKind.TheVariants as item
use Rattle.co_schedule.specs.Limits.{longest_line}
use Rattle.co_schedule.specs.Spelling.{line_text}
use Rattle.co_schedule.specs.View.{IsWithin, IsNode, IsTxn, IsCount, IsKey, IsMessageFor, IsEventFor}

-- the keys and values of records are texts
abbrev pub AreRows : List Row → Type 0
AreRows [] = Unit {0}
AreRows (row ∷ rows) = IsKey row.key × IsText most_value_bytes row.value × AreRows rows

abbrev pub IsReply : Reply → Type 0
IsReply (reply.Got (Some value)) = IsText most_value_bytes value
IsReply (reply.Got None) = Unit {0}
IsReply (reply.Rows rows) = IsInKeyOrder rows × AreRows rows × (length rows ≤ 4294967295)
IsReply reply.Done = Unit {0}

-- the fields of an answer are in their sets
abbrev pub IsAnswer : Answer → Type 0
IsAnswer (answer.Replied reply) = IsReply reply
IsAnswer (answer.Blocked txn) = IsTxn txn
IsAnswer (answer.Gone kept carried) = IsCount kept × IsCount carried
IsAnswer (answer.Waiting member) = IsWithin 1 most_members member
IsAnswer (answer.NoLost kept carried) = IsCount kept × IsCount carried
IsAnswer (answer.NoStale key) = IsKey key
IsAnswer (answer.Held txn) = IsTxn txn
IsAnswer (answer.Filled generation) = generation ≤ 4294967295
IsAnswer (answer.Stopped call) = IsWithin 1 4 call
IsAnswer (answer.Down node) = IsNode most_members most_coordinators node
IsAnswer _ = Unit {0}

abbrev pub IsMark : Mark → Type 0
IsMark mark = IsNode most_members most_coordinators mark.node × (mark.number ≤ 4294967295)

-- what an item tells is in its sets; an event has a line of at most 8,192 bytes
abbrev pub IsTold : ItemKind → Type 0
IsTold (item.Head head) = Unit {0}
IsTold (item.Event event) = IsEventFor most_members most_coordinators event × (length (line_text event) ≤ longest_line)
IsTold (item.Log mark) = IsMark mark
IsTold (item.Sent message) = IsMessageFor most_members most_coordinators message
IsTold (item.Answered answer) = IsAnswer answer

abbrev pub IsItem : Item → Type 0
IsItem item = (item.number ≤ 4294967295) × IsTold item.what
