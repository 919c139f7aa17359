-- Every place of an item wants words without newlines.
use Rattle.std.proofs.Common.{ℕ, zero, suc, ◌<◌, ◌^◌, Bool, true, false, Option, None, Some, if◌then◌else◌, refl, arith}
use Rattle.std.specs.Prelude.{codes}
use Rattle.std.specs.Str.{bytes_eq}
use Rattle.std.specs.Str.Parse.{digits_value}
use Rattle.co_schedule.specs.Grammar as line
use Rattle.co_schedule.specs.Places.{key, nothing, ◌▸◌}
use Rattle.co_schedule.specs.Words.{Word}
use Rattle.co_schedule.specs.declared.form.Form.{Form}
use Rattle.co_schedule.specs.declared.form.Form.TheVariants as event
use Rattle.co_schedule.specs.declared.form.MessageForm.{MessageForm}
use Rattle.co_schedule.specs.declared.form.MessageForm.TheVariants as message
use Rattle.co_transcript.specs.Grammar.{rows_places, lost_or_stale, answer_places, answer_chosen, form_named, told_places, told_chosen, told_named, line_chosen, kinds_of_head, item_places}
use Rattle.co_transcript.specs.declared.form.AnswerForm.{AnswerForm}
use Rattle.co_transcript.specs.declared.form.AnswerForm.TheVariants as form
use Rattle.co_transcript.specs.declared.form.ToldForm.{ToldForm}
use Rattle.co_transcript.specs.declared.form.ToldForm.TheVariants as told
use Rattle.co_law_check.proofs.Cutting.{AreClean}

-- a limit of this kind is within 64 bits
small : 4294967295 < 2 ^ 64
small = omega arith

count : 65535 < 2 ^ 64
count = omega arith

most_members : 16 < 2 ^ 64
most_members = omega arith

most_coords : 8 < 2 ^ 64
most_coords = omega arith

most_calls : 4 < 2 ^ 64
most_calls = omega arith

-- ---- events and messages

message_clean : (m : MessageForm) → AreClean (line.message_fields 16 8 m)
message_clean message.Prepare = (small, λ a. (most_coords, λ b. (most_members, λ c. (count, λ d. tt))))
message_clean message.Vote = (small, λ a. (most_members, λ b. (most_coords, λ c. (refl, λ d. tt))))
message_clean message.Decide = (small, λ a. (most_coords, λ b. (most_members, λ c. (refl, λ d. tt))))
message_clean message.Ask = (small, λ a. (most_members, λ b. (most_coords, λ c. tt)))
message_clean message.Ack = (small, λ a. (most_members, λ b. (most_coords, λ c. tt)))

message_chosen_clean : (m : Option MessageForm) → AreClean (line.message_chosen 16 8 m)
message_chosen_clean None = tt
message_chosen_clean (Some m) = message_clean m

messages_clean : AreClean (line.message_places 16 8)
messages_clean = (refl, λ word. message_chosen_clean (line.message_named word))

event_clean : (e : Form) → AreClean (line.event_fields 16 8 e)
event_clean event.Begin = (small, λ a. (most_coords, λ b. tt))
event_clean event.Local = (small, λ a. (most_members, λ b. tt))
event_clean event.Read = (small, λ a. (most_members, λ b. (tt, λ c. tt)))
event_clean event.Write = (small, λ a. (most_members, λ b. (tt, λ c. (tt, λ d. tt))))
event_clean event.Erase = (small, λ a. (most_members, λ b. (tt, λ c. tt)))
event_clean event.Scan = (small, λ a. (most_members, λ b. (tt, λ c. (tt, λ d. tt))))
event_clean event.Commit = (small, λ a. tt)
event_clean event.Abort = (small, λ a. tt)
event_clean event.Deliver = messages_clean
event_clean event.Vote = (small, λ a. (most_members, λ b. tt))
event_clean event.Timer = (small, λ a. ((most_members, most_coords), λ b. tt))
event_clean event.Ask = (small, λ a. (most_members, λ b. tt))
event_clean event.Resend = (small, λ a. (most_coords, λ b. tt))
event_clean event.Crash = ((most_members, most_coords), λ a. tt)
event_clean event.Restart = ((most_members, most_coords), λ a. tt)
event_clean event.Arm = ((most_members, most_coords), λ a. (most_calls, λ b. (tt, λ c. tt)))
event_clean event.Checkpoint = ((most_members, most_coords), λ a. tt)

event_chosen_clean : (e : Option Form) → AreClean (line.event_chosen 16 8 e)
event_chosen_clean None = tt
event_chosen_clean (Some e) = event_clean e

-- ---- heads

kinds_clean : (more : ℕ) → AreClean (line.kinds_places more)
kinds_clean zero = (refl, λ a. (most_coords, λ b. tt))
kinds_clean (suc more) = (refl, λ word. by (kinds_clean more) (bytes_eq (codes "coords") word))
  where
    by : AreClean (line.kinds_places more) → (b : Bool) → AreClean (if b then line.coords_places else line.kinds_places more)
    by rest true = (most_coords, λ a. tt)
    by rest false = rest

line_clean : (word : Word) → AreClean (line_chosen word)
line_clean word = by (bytes_eq (codes "members") word)
  where
    by : (b : Bool) → AreClean (if b then kinds_of_head else line.event_chosen 16 8 (line.form_named word))
    by true = (refl, λ a. kinds_clean 15)
    by false = event_chosen_clean (line.form_named word)

-- ---- answers

rows_clean : (more : ℕ) (before : Option Word) → AreClean (rows_places more before)
rows_clean zero before = tt
rows_clean (suc more) None = (tt, λ name. (tt, λ value. rows_clean more (Some name)))
rows_clean (suc more) (Some before) = (tt, λ name. (tt, λ value. rows_clean more (Some name)))

lost_clean : AreClean lost_or_stale
lost_clean = (refl, λ word. by (bytes_eq (codes "lost") word))
  where
    by : (b : Bool) → AreClean (if b then line.count ▸ line.count ▸ nothing else key ▸ nothing)
    by true = (count, λ a. (count, λ b. tt))
    by false = (tt, λ a. tt)

answer_clean : (a : AnswerForm) → AreClean (answer_places a)
answer_clean form.Opened = tt
answer_clean form.Begun = tt
answer_clean form.Done = tt
answer_clean form.Got = (tt, λ a. tt)
answer_clean form.Missing = tt
answer_clean form.Rows = (small, λ word. rows_clean (digits_value 10 word) None)
answer_clean form.Blocked = (small, λ a. tt)
answer_clean form.Gone = (count, λ a. (count, λ b. tt))
answer_clean form.Too = (refl, λ a. tt)
answer_clean form.Waiting = (most_members, λ a. tt)
answer_clean form.Committed = tt
answer_clean form.Aborted = (refl, λ a. tt)
answer_clean form.Decided = tt
answer_clean form.Ended = tt
answer_clean form.Idle = tt
answer_clean form.Unknown = tt
answer_clean form.Yes = tt
answer_clean form.No = lost_clean
answer_clean form.Held = (small, λ a. tt)
answer_clean form.Voted = tt
answer_clean form.Unasked = tt
answer_clean form.Unvoted = tt
answer_clean form.Already = tt
answer_clean form.Absent = tt
answer_clean form.Installed = tt
answer_clean form.Dropped = tt
answer_clean form.Kept = tt
answer_clean form.Asking = tt
answer_clean form.Crashed = tt
answer_clean form.Up = tt
answer_clean form.Running = tt
answer_clean form.Armed = tt
answer_clean form.Closed = tt
answer_clean form.Filled = (small, λ a. tt)
answer_clean form.Stopped = (most_calls, λ a. tt)
answer_clean form.Used = tt
answer_clean form.Not = (refl, λ a. tt)
answer_clean form.Asked = tt
answer_clean form.Unsent = tt
answer_clean form.Down = ((most_members, most_coords), λ a. tt)

answer_chosen_clean : (a : Option AnswerForm) → AreClean (answer_chosen a)
answer_chosen_clean None = tt
answer_chosen_clean (Some a) = answer_clean a

-- ---- items

told_clean : (t : ToldForm) → AreClean (told_places t)
told_clean told.Event = (refl, line_clean)
told_clean told.Log = ((most_members, most_coords), λ a. (refl, λ b. (small, λ c. tt)))
told_clean told.Send = messages_clean
told_clean told.Reply =
    (refl, λ word. answer_chosen_clean (form_named word))

told_chosen_clean : (t : Option ToldForm) → AreClean (told_chosen t)
told_chosen_clean None = tt
told_chosen_clean (Some t) = told_clean t

pub items_clean : AreClean item_places
items_clean = (small, λ number. (refl, λ word. told_chosen_clean (told_named word)))
