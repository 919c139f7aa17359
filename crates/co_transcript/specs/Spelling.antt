-- The one spelling of each item, as the list of its words.
use Rattle.std.specs.Prelude.{ℕ, List, [], ◌∷◌, ◌++◌, length, Some, None, codes, decimal}
use Rattle.co_base.specs.declared.row.Row.{Row}
use Rattle.co_base.specs.declared.reply.Reply.{Reply}
use Rattle.co_base.specs.declared.reply.Reply.TheVariants as reply
use Rattle.co_base.specs.declared.mark.Mark.{Mark}
use Rattle.co_base.specs.declared.mark.MarkKind.{MarkKind}
use Rattle.co_base.specs.declared.mark.MarkKind.TheVariants as mark
use Rattle.co_message.specs.declared.answer.Cause.{Cause}
use Rattle.co_message.specs.declared.answer.Cause.TheVariants as cause
use Rattle.co_message.specs.declared.answer.Answer.{Answer}
use Rattle.co_message.specs.declared.answer.Answer.TheVariants as answer
use Rattle.co_message.specs.declared.item.Item.{Item}
use Rattle.co_message.specs.declared.item.ItemKind.{ItemKind}
use Rattle.co_message.specs.declared.item.ItemKind.TheVariants as item
use Rattle.co_schedule.specs.Words.{Word, spaced}
use Rattle.co_schedule.specs.Spelling.{member_word, node_word, message_words, event_words, head_words}

abbrev pub mark_word : MarkKind → Word
mark_word mark.Header = codes "header"
mark_word mark.Prepare = codes "prepare"
mark_word mark.Commit = codes "commit"
mark_word mark.Abort = codes "abort"
mark_word mark.End = codes "end"
mark_word mark.Checkpoint = codes "checkpoint"

abbrev pub cause_word : Cause → Word
cause_word cause.Vote = codes "vote"
cause_word cause.Timer = codes "timer"
cause_word cause.Client = codes "client"

-- each record as its key and its value
abbrev pub row_words : List Row → List Word
row_words [] = []
row_words (row ∷ rows) = row.key ∷ row.value ∷ row_words rows

-- the fixed words of a reply
abbrev pub reply_form : Reply → List Word
reply_form (reply.Got (Some value)) = codes "got" ∷ []
reply_form (reply.Got None) = codes "missing" ∷ []
reply_form (reply.Rows rows) = codes "rows" ∷ []
reply_form reply.Done = codes "done" ∷ []

-- what stands behind them
abbrev pub reply_fields : Reply → List Word
reply_fields (reply.Got (Some value)) = value ∷ []
reply_fields (reply.Got None) = []
reply_fields (reply.Rows rows) = decimal (length rows) ∷ row_words rows
reply_fields reply.Done = []

abbrev pub reply_words : Reply → List Word
reply_words reply = reply_form reply ++ reply_fields reply

-- the fixed words of an answer
abbrev pub answer_form : Answer → List Word
answer_form answer.Opened = codes "open" ∷ []
answer_form answer.Begun = codes "begun" ∷ []
answer_form (answer.Replied reply) = reply_form reply
answer_form (answer.Blocked txn) = codes "blocked" ∷ []
answer_form (answer.Gone kept carried) = codes "gone" ∷ []
answer_form answer.TooMany = codes "too" ∷ codes "many" ∷ []
answer_form (answer.Waiting member) = codes "waiting" ∷ []
answer_form answer.Committed = codes "committed" ∷ []
answer_form (answer.Aborted cause) = codes "aborted" ∷ []
answer_form answer.Decided = codes "decided" ∷ []
answer_form answer.Ended = codes "ended" ∷ []
answer_form answer.Idle = codes "idle" ∷ []
answer_form answer.Unknown = codes "unknown" ∷ []
answer_form answer.Yes = codes "yes" ∷ []
answer_form (answer.NoLost kept carried) = codes "no" ∷ codes "lost" ∷ []
answer_form (answer.NoStale key) = codes "no" ∷ codes "stale" ∷ []
answer_form (answer.Held txn) = codes "held" ∷ []
answer_form answer.Voted = codes "voted" ∷ []
answer_form answer.Unasked = codes "unasked" ∷ []
answer_form answer.Unvoted = codes "unvoted" ∷ []
answer_form answer.Already = codes "already" ∷ []
answer_form answer.Absent = codes "absent" ∷ []
answer_form answer.Installed = codes "installed" ∷ []
answer_form answer.Dropped = codes "dropped" ∷ []
answer_form answer.Kept = codes "kept" ∷ []
answer_form answer.Asking = codes "asking" ∷ []
answer_form answer.Crashed = codes "crashed" ∷ []
answer_form answer.Up = codes "up" ∷ []
answer_form answer.Running = codes "running" ∷ []
answer_form answer.Armed = codes "armed" ∷ []
answer_form answer.Closed = codes "closed" ∷ []
answer_form (answer.Filled generation) = codes "filled" ∷ []
answer_form (answer.Stopped call) = codes "stopped" ∷ []
answer_form answer.Used = codes "used" ∷ []
answer_form answer.NotBegun = codes "not" ∷ codes "begun" ∷ []
answer_form answer.Asked = codes "asked" ∷ []
answer_form answer.Unsent = codes "unsent" ∷ []
answer_form (answer.Down node) = codes "down" ∷ []

-- what stands behind them, for most answers nothing
abbrev pub answer_fields : Answer → List Word
answer_fields (answer.Replied reply) = reply_fields reply
answer_fields (answer.Blocked txn) = decimal txn ∷ []
answer_fields (answer.Gone kept carried) = decimal kept ∷ decimal carried ∷ []
answer_fields (answer.Waiting member) = member_word member ∷ []
answer_fields (answer.Aborted cause) = cause_word cause ∷ []
answer_fields (answer.NoLost kept carried) = decimal kept ∷ decimal carried ∷ []
answer_fields (answer.NoStale key) = key ∷ []
answer_fields (answer.Held txn) = decimal txn ∷ []
answer_fields (answer.Filled generation) = decimal generation ∷ []
answer_fields (answer.Stopped call) = decimal call ∷ []
answer_fields (answer.Down node) = node_word node ∷ []
answer_fields _ = []

-- an answer
abbrev pub answer_words : Answer → List Word
answer_words answer = answer_form answer ++ answer_fields answer

-- a record that became stable
abbrev pub mark_words : Mark → List Word
mark_words mark = node_word mark.node ∷ mark_word mark.kind ∷ decimal mark.number ∷ []

-- what an item tells, behind its number
abbrev pub kind_words : ItemKind → List Word
kind_words (item.Head head) = codes "event" ∷ head_words head
kind_words (item.Event event) = codes "event" ∷ event_words event
kind_words (item.Log mark) = codes "log" ∷ mark_words mark
kind_words (item.Sent message) = codes "send" ∷ message_words message
kind_words (item.Answered answer) = codes "reply" ∷ answer_words answer

abbrev pub item_words : Item → List Word
item_words item = decimal item.number ∷ kind_words item.what

-- an item without its newline
abbrev pub item_text : Item → List ℕ
item_text item = spaced (item_words item)
