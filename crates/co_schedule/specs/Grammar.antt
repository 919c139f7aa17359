-- The places of each line.
use Rattle.std.specs.Prelude.{ℕ, zero, suc, ◌-◌, if◌then◌else◌, List, [], ◌∷◌, map, find, Option, None, Some, codes}
use Rattle.std.specs.Str.{bytes_eq}
use Rattle.co_base.specs.Limits.{most_coordinators, most_members}
use Rattle.co_base.specs.declared.head.Kind.{Kind}
use Rattle.co_base.specs.declared.head.Kind.TheVariants.{Lock, Occ, Mv}
use Rattle.co_schedule.specs.Words.{Word}
use Rattle.co_schedule.specs.Spelling.{kind_word}
use Rattle.co_schedule.specs.Places.{Want, number, member, coord, node, key, key_from, value, one_of, leaves, Places, nothing, place, ◌▸◌}
use Rattle.co_schedule.specs.declared.form.Form.{Form}
use Rattle.co_schedule.specs.declared.form.Form.TheVariants as form
use Rattle.co_schedule.specs.declared.form.MessageForm.{MessageForm}
use Rattle.co_schedule.specs.declared.form.MessageForm.TheVariants as message

abbrev pub form_word : Form → Word
form_word form.Begin = codes "begin"
form_word form.Local = codes "local"
form_word form.Read = codes "read"
form_word form.Write = codes "write"
form_word form.Erase = codes "erase"
form_word form.Scan = codes "scan"
form_word form.Commit = codes "commit"
form_word form.Abort = codes "abort"
form_word form.Deliver = codes "deliver"
form_word form.Vote = codes "vote"
form_word form.Timer = codes "timer"
form_word form.Ask = codes "ask"
form_word form.Resend = codes "resend"
form_word form.Crash = codes "crash"
form_word form.Restart = codes "restart"
form_word form.Arm = codes "arm"
form_word form.Checkpoint = codes "checkpoint"

abbrev pub all_forms : List Form
all_forms = form.Begin ∷ form.Local ∷ form.Read ∷ form.Write ∷ form.Erase ∷ form.Scan ∷ form.Commit ∷ form.Abort ∷ form.Deliver ∷ form.Vote ∷ form.Timer ∷ form.Ask ∷ form.Resend ∷ form.Crash ∷ form.Restart ∷ form.Arm ∷ form.Checkpoint ∷ []

-- the form of this word
abbrev pub form_named : Word → Option Form
form_named word = find (λ f. bytes_eq (form_word f) word) all_forms

-- the word of a form, or `members`
abbrev pub form_or_members_word : Option Form → Word
form_or_members_word None = codes "members"
form_or_members_word (Some f) = form_word f

abbrev pub message_word : MessageForm → Word
message_word message.Prepare = codes "prepare"
message_word message.Vote = codes "vote"
message_word message.Decide = codes "decide"
message_word message.Ask = codes "ask"
message_word message.Ack = codes "ack"

abbrev pub all_messages : List MessageForm
all_messages = message.Prepare ∷ message.Vote ∷ message.Decide ∷ message.Ask ∷ message.Ack ∷ []

abbrev pub message_named : Word → Option MessageForm
message_named word = find (λ f. bytes_eq (message_word f) word) all_messages

-- every transaction number
abbrev pub txn : Want
txn = number 0 4294967295

abbrev pub count : Want
count = number 0 65535

-- a number of a device call
abbrev pub call : Want
call = number 1 4

abbrev pub answers : List Word
answers = codes "yes" ∷ codes "no" ∷ []

abbrev pub decisions : List Word
decisions = codes "commit" ∷ codes "abort" ∷ []

-- the places behind the word of a message, for so many members and coordinators
abbrev pub message_fields : ℕ → ℕ → MessageForm → Places
message_fields members coords message.Prepare = txn ▸ coord coords ▸ member members ▸ count ▸ nothing
message_fields members coords message.Vote = txn ▸ member members ▸ coord coords ▸ one_of answers ▸ nothing
message_fields members coords message.Decide = txn ▸ coord coords ▸ member members ▸ one_of decisions ▸ nothing
message_fields members coords message.Ask = txn ▸ member members ▸ coord coords ▸ nothing
message_fields members coords message.Ack = txn ▸ member members ▸ coord coords ▸ nothing

abbrev pub message_chosen : ℕ → ℕ → Option MessageForm → Places
message_chosen members coords None = nothing
message_chosen members coords (Some chosen) = message_fields members coords chosen

-- a message
abbrev pub message_places : ℕ → ℕ → Places
message_places members coords = place (one_of (map message_word all_messages)) (λ word. message_chosen members coords (message_named word))

-- the places behind the word of an event
abbrev pub event_fields : ℕ → ℕ → Form → Places
event_fields members coords form.Begin = txn ▸ coord coords ▸ nothing
event_fields members coords form.Local = txn ▸ member members ▸ nothing
event_fields members coords form.Read = txn ▸ member members ▸ key ▸ nothing
event_fields members coords form.Write = txn ▸ member members ▸ key ▸ value ▸ nothing
event_fields members coords form.Erase = txn ▸ member members ▸ key ▸ nothing
event_fields members coords form.Scan = txn ▸ member members ▸ place key (λ low. key_from low ▸ nothing)
event_fields members coords form.Commit = txn ▸ nothing
event_fields members coords form.Abort = txn ▸ nothing
event_fields members coords form.Deliver = message_places members coords
event_fields members coords form.Vote = txn ▸ member members ▸ nothing
event_fields members coords form.Timer = txn ▸ node members coords ▸ nothing
event_fields members coords form.Ask = txn ▸ member members ▸ nothing
event_fields members coords form.Resend = txn ▸ coord coords ▸ nothing
event_fields members coords form.Crash = node members coords ▸ nothing
event_fields members coords form.Restart = node members coords ▸ nothing
event_fields members coords form.Arm = node members coords ▸ call ▸ leaves ▸ nothing
event_fields members coords form.Checkpoint = node members coords ▸ nothing

abbrev pub event_chosen : ℕ → ℕ → Option Form → Places
event_chosen members coords None = nothing
event_chosen members coords (Some chosen) = event_fields members coords chosen

-- an event
abbrev pub event_places : ℕ → ℕ → Places
event_places members coords = place (one_of (map form_word all_forms)) (λ word. event_chosen members coords (form_named word))

abbrev pub all_kinds : List Kind
all_kinds = Lock ∷ Occ ∷ Mv ∷ []

abbrev pub kind_named : Word → Option Kind
kind_named word = find (λ k. bytes_eq (kind_word k) word) all_kinds

-- the count of coordinators, and the end
abbrev pub coords_places : Places
coords_places = number 1 most_coordinators ▸ nothing

-- the kinds of at most so many more members, and then the coordinators
abbrev pub kinds_places : ℕ → Places
kinds_places zero = one_of (codes "coords" ∷ []) ▸ coords_places
kinds_places (suc more) = place (one_of (codes "coords" ∷ map kind_word all_kinds)) (λ word. if bytes_eq (codes "coords") word then coords_places else kinds_places more)

-- a head: its first word, and the kinds of its members
abbrev pub head_places : Places
head_places = one_of (codes "members" ∷ []) ▸ one_of (map kind_word all_kinds) ▸ kinds_places (most_members - 1)
