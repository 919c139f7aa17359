-- The places of items.
use Rattle.std.specs.Prelude.{ℕ, zero, suc, List, [], ◌∷◌, map, find, Option, None, Some, codes, if◌then◌else◌}
use Rattle.std.specs.Str.{bytes_eq}
use Rattle.std.specs.Str.Parse.{digits_value}
use Rattle.co_base.specs.declared.mark.MarkKind.{MarkKind}
use Rattle.co_base.specs.declared.mark.MarkKind.TheVariants as mark
use Rattle.co_base.specs.Limits.{most_coordinators, most_members}
use Rattle.co_message.specs.declared.answer.Cause.{Cause}
use Rattle.co_message.specs.declared.answer.Cause.TheVariants as cause
use Rattle.co_schedule.specs.Limits.{longest_line}
use Rattle.co_schedule.specs.Words.{Word}
use Rattle.co_schedule.specs.Spelling.{kind_word}
use Rattle.co_schedule.specs.Places.{Want, number, member, node, key, key_above, value, one_of, Places, nothing, place, within, ◌▸◌}
use Rattle.co_schedule.specs.Grammar as line
use Rattle.co_transcript.specs.Spelling.{mark_word, cause_word}
use Rattle.co_transcript.specs.declared.form.AnswerForm.{AnswerForm}
use Rattle.co_transcript.specs.declared.form.AnswerForm.TheVariants as form
use Rattle.co_transcript.specs.declared.form.ToldForm.{ToldForm}
use Rattle.co_transcript.specs.declared.form.ToldForm.TheVariants as told

abbrev pub form_word : AnswerForm → Word
form_word form.Opened = codes "open"
form_word form.Begun = codes "begun"
form_word form.Done = codes "done"
form_word form.Got = codes "got"
form_word form.Missing = codes "missing"
form_word form.Rows = codes "rows"
form_word form.Blocked = codes "blocked"
form_word form.Gone = codes "gone"
form_word form.Too = codes "too"
form_word form.Waiting = codes "waiting"
form_word form.Committed = codes "committed"
form_word form.Aborted = codes "aborted"
form_word form.Decided = codes "decided"
form_word form.Ended = codes "ended"
form_word form.Idle = codes "idle"
form_word form.Unknown = codes "unknown"
form_word form.Yes = codes "yes"
form_word form.No = codes "no"
form_word form.Held = codes "held"
form_word form.Voted = codes "voted"
form_word form.Unasked = codes "unasked"
form_word form.Unvoted = codes "unvoted"
form_word form.Already = codes "already"
form_word form.Absent = codes "absent"
form_word form.Installed = codes "installed"
form_word form.Dropped = codes "dropped"
form_word form.Kept = codes "kept"
form_word form.Asking = codes "asking"
form_word form.Crashed = codes "crashed"
form_word form.Up = codes "up"
form_word form.Running = codes "running"
form_word form.Armed = codes "armed"
form_word form.Closed = codes "closed"
form_word form.Filled = codes "filled"
form_word form.Stopped = codes "stopped"
form_word form.Used = codes "used"
form_word form.Not = codes "not"
form_word form.Asked = codes "asked"
form_word form.Unsent = codes "unsent"
form_word form.Down = codes "down"

abbrev pub all_forms : List AnswerForm
all_forms = form.Opened ∷ form.Begun ∷ form.Done ∷ form.Got ∷ form.Missing ∷ form.Rows ∷ form.Blocked ∷ form.Gone ∷ form.Too ∷ form.Waiting ∷ form.Committed ∷ form.Aborted ∷ form.Decided ∷ form.Ended ∷ form.Idle ∷ form.Unknown ∷ form.Yes ∷ form.No ∷ form.Held ∷ form.Voted ∷ form.Unasked ∷ form.Unvoted ∷ form.Already ∷ form.Absent ∷ form.Installed ∷ form.Dropped ∷ form.Kept ∷ form.Asking ∷ form.Crashed ∷ form.Up ∷ form.Running ∷ form.Armed ∷ form.Closed ∷ form.Filled ∷ form.Stopped ∷ form.Used ∷ form.Not ∷ form.Asked ∷ form.Unsent ∷ form.Down ∷ []

-- the answers of this first word
abbrev pub form_named : Word → Option AnswerForm
form_named word = find (λ f. bytes_eq (form_word f) word) all_forms

abbrev pub all_marks : List MarkKind
all_marks = mark.Header ∷ mark.Prepare ∷ mark.Commit ∷ mark.Abort ∷ mark.End ∷ mark.Checkpoint ∷ []

abbrev pub mark_named : Word → Option MarkKind
mark_named word = find (λ f. bytes_eq (mark_word f) word) all_marks

abbrev pub all_causes : List Cause
all_causes = cause.Vote ∷ cause.Timer ∷ cause.Client ∷ []

abbrev pub cause_named : Word → Option Cause
cause_named word = find (λ f. bytes_eq (cause_word f) word) all_causes

-- the key of a record, above the key of the record before it, if there is one
abbrev pub row_key : Option Word → Want
row_key None = key
row_key (Some before) = key_above before

-- a record, and what stands behind it
abbrev pub row_places : Option Word → (Option Word → Places) → Places
row_places before next = place (row_key before) (λ name. value ▸ next (Some name))

-- so many records, and nothing more
abbrev pub rows_places : ℕ → Option Word → Places
rows_places zero before = nothing
rows_places (suc more) before = row_places before (rows_places more)

abbrev pub lost_or_stale : Places
lost_or_stale = place (one_of (codes "lost" ∷ codes "stale" ∷ [])) (λ word. if bytes_eq (codes "lost") word then line.count ▸ line.count ▸ nothing else key ▸ nothing)

-- the places behind the first word of an answer
abbrev pub answer_places : AnswerForm → Places
answer_places form.Got = value ▸ nothing
answer_places form.Rows = place (number 0 4294967295) (λ count. rows_places (digits_value 10 count) None)
answer_places form.Blocked = line.txn ▸ nothing
answer_places form.Gone = line.count ▸ line.count ▸ nothing
answer_places form.Too = one_of (codes "many" ∷ []) ▸ nothing
answer_places form.Waiting = member most_members ▸ nothing
answer_places form.Aborted = one_of (map cause_word all_causes) ▸ nothing
answer_places form.No = lost_or_stale
answer_places form.Held = line.txn ▸ nothing
answer_places form.Filled = number 0 4294967295 ▸ nothing
answer_places form.Stopped = line.call ▸ nothing
answer_places form.Not = one_of (codes "begun" ∷ []) ▸ nothing
answer_places form.Down = node most_members most_coordinators ▸ nothing
answer_places _ = nothing

-- the forms of answers that have more words than the first one
abbrev pub HasFields : AnswerForm → Type 0
HasFields form.Got = Unit {0}
HasFields form.Rows = Unit {0}
HasFields form.Gone = Unit {0}
HasFields form.No = Unit {0}
HasFields form.Waiting = Unit {0}
HasFields form.Aborted = Unit {0}
HasFields form.Filled = Unit {0}
HasFields form.Stopped = Unit {0}
HasFields form.Down = Unit {0}
HasFields form.Blocked = Unit {0}
HasFields form.Held = Unit {0}
HasFields form.Too = Unit {0}
HasFields form.Not = Unit {0}
HasFields _ = ⊥

abbrev pub answer_chosen : Option AnswerForm → Places
answer_chosen None = nothing
answer_chosen (Some chosen) = answer_places chosen

-- an answer
abbrev pub reply_places : Places
reply_places = place (one_of (map form_word all_forms)) (λ word. answer_chosen (form_named word))

-- a record that became stable
abbrev pub log_places : Places
log_places = node most_members most_coordinators ▸ one_of (map mark_word all_marks) ▸ number 0 4294967295 ▸ nothing

-- a head behind its first word
abbrev pub kinds_of_head : Places
kinds_of_head = one_of (map kind_word line.all_kinds) ▸ line.kinds_places 15

abbrev pub line_chosen : Word → Places
line_chosen word = if bytes_eq (codes "members") word then kinds_of_head else line.event_chosen most_members most_coordinators (line.form_named word)

-- a head or an event, of at most as many bytes as a line
abbrev pub line_places : Places
line_places = within longest_line (place (one_of (codes "members" ∷ map line.form_word line.all_forms)) line_chosen)

abbrev pub told_word : ToldForm → Word
told_word told.Event = codes "event"
told_word told.Log = codes "log"
told_word told.Send = codes "send"
told_word told.Reply = codes "reply"

abbrev pub all_told : List ToldForm
all_told = told.Event ∷ told.Log ∷ told.Send ∷ told.Reply ∷ []

abbrev pub told_named : Word → Option ToldForm
told_named word = find (λ f. bytes_eq (told_word f) word) all_told

-- what an item tells, behind its word
abbrev pub told_places : ToldForm → Places
told_places told.Event = line_places
told_places told.Log = log_places
told_places told.Send = line.message_places most_members most_coordinators
told_places told.Reply = reply_places

abbrev pub told_chosen : Option ToldForm → Places
told_chosen None = nothing
told_chosen (Some chosen) = told_places chosen

-- an item: its number, and what it tells
abbrev pub item_places : Places
item_places = number 0 4294967295 ▸ place (one_of (map told_word all_told)) (λ word. told_chosen (told_named word))
