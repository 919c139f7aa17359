-- No two items have the same words.
use Rattle.std.proofs.Common.{◌≡◌, Bool, true, false, List, [], ◌∷◌, get_or, drop, Option, Some, None, refl, sym, ap, ◌∙◌, arith}
use Rattle.std.specs.Prelude.{decimal, codes, if◌then◌else◌}
use Rattle.std.specs.Str.{bytes_eq}
use Rattle.co_base.specs.declared.head.Head.{Head}
use Rattle.co_base.specs.declared.row.Row.{Row}
use Rattle.co_base.specs.declared.reply.Reply.TheVariants as reply
use Rattle.co_base.specs.declared.mark.Mark.{Mark}
use Rattle.co_base.specs.declared.mark.MarkKind.{MarkKind}
use Rattle.co_base.specs.declared.mark.MarkKind.TheVariants as mark
use Rattle.co_base.specs.Limits.{most_coordinators, most_members}
use Rattle.co_message.specs.declared.answer.Cause.{Cause}
use Rattle.co_message.specs.declared.answer.Cause.TheVariants as cause
use Rattle.co_message.specs.declared.answer.Answer.{Answer}
use Rattle.co_message.specs.declared.answer.Answer.TheVariants as answer
use Rattle.co_message.specs.declared.event.Event.{Event}
use Rattle.co_message.specs.declared.event.Event.TheVariants as event
use Rattle.co_message.specs.declared.message.Message.{Message}
use Rattle.co_message.specs.declared.item.Item.{Item}
use Rattle.co_message.specs.declared.item.ItemKind.{ItemKind}
use Rattle.co_message.specs.declared.item.ItemKind.TheVariants as item
use Rattle.co_schedule.specs.Words.{Word}
use Rattle.co_schedule.specs.Spelling.{event_words, head_words, message_words}
use Rattle.co_schedule.specs.View.{IsMessageFor}
use Rattle.co_schedule.proofs.Numbers.{value_of-decimal}
use Rattle.co_schedule.proofs.Unique.{amount, named, node_from, node_same, message_back, message_back-words}
use Rattle.co_schedule.proofs.EventLaws.{same_event}
use Rattle.co_schedule.proofs.HeadUnique.{head_same}
use Rattle.co_transcript.specs.Spelling.{mark_word, row_words, answer_words, mark_words, kind_words, item_words}
use Rattle.co_transcript.specs.Grammar.{form_named, mark_named, cause_named, told_named}
use Rattle.co_transcript.specs.declared.form.ToldForm.{ToldForm}
use Rattle.co_transcript.specs.declared.form.ToldForm.TheVariants as told
use Rattle.co_transcript.specs.declared.form.AnswerForm.{AnswerForm}
use Rattle.co_transcript.specs.declared.form.AnswerForm.TheVariants as form
use Rattle.co_transcript.specs.Items.{IsAnswer, IsMark, IsTold, IsItem}

abbrev rows_back : List Word → List Row
rows_back [] = []
rows_back (name ∷ []) = []
rows_back (name ∷ value ∷ words) = record { key = name; value = value } ∷ rows_back words

rows_back-words : (rows : List Row) → rows_back (row_words rows) ≡ rows
rows_back-words [] = refl
rows_back-words (row ∷ rows) = ap (λ (rs : List Row). row ∷ rs) (rows_back-words rows)

abbrev cause_from : Option Cause → Option Answer
cause_from None = None
cause_from (Some by) = Some (answer.Aborted by)

abbrev answer_from : Option AnswerForm → List Word → Option Answer
answer_from None words = None
answer_from (Some form.Opened) words = Some answer.Opened
answer_from (Some form.Begun) words = Some answer.Begun
answer_from (Some form.Done) words = Some (answer.Replied reply.Done)
answer_from (Some form.Got) words = Some (answer.Replied (reply.Got (Some (get_or words 0 []))))
answer_from (Some form.Missing) words = Some (answer.Replied (reply.Got None))
answer_from (Some form.Rows) words = Some (answer.Replied (reply.Rows (rows_back (drop 1 words))))
answer_from (Some form.Blocked) words = Some (answer.Blocked (amount (get_or words 0 [])))
answer_from (Some form.Gone) words = Some (answer.Gone (amount (get_or words 0 [])) (amount (get_or words 1 [])))
answer_from (Some form.Too) words = Some answer.TooMany
answer_from (Some form.Waiting) words = Some (answer.Waiting (named (get_or words 0 [])))
answer_from (Some form.Committed) words = Some answer.Committed
answer_from (Some form.Aborted) words = cause_from (cause_named (get_or words 0 []))
answer_from (Some form.Decided) words = Some answer.Decided
answer_from (Some form.Ended) words = Some answer.Ended
answer_from (Some form.Idle) words = Some answer.Idle
answer_from (Some form.Unknown) words = Some answer.Unknown
answer_from (Some form.Yes) words = Some answer.Yes
answer_from (Some form.No) words = if bytes_eq (codes "lost") (get_or words 0 []) then Some (answer.NoLost (amount (get_or words 1 [])) (amount (get_or words 2 []))) else Some (answer.NoStale (get_or words 1 []))
answer_from (Some form.Held) words = Some (answer.Held (amount (get_or words 0 [])))
answer_from (Some form.Voted) words = Some answer.Voted
answer_from (Some form.Unasked) words = Some answer.Unasked
answer_from (Some form.Unvoted) words = Some answer.Unvoted
answer_from (Some form.Already) words = Some answer.Already
answer_from (Some form.Absent) words = Some answer.Absent
answer_from (Some form.Installed) words = Some answer.Installed
answer_from (Some form.Dropped) words = Some answer.Dropped
answer_from (Some form.Kept) words = Some answer.Kept
answer_from (Some form.Asking) words = Some answer.Asking
answer_from (Some form.Crashed) words = Some answer.Crashed
answer_from (Some form.Up) words = Some answer.Up
answer_from (Some form.Running) words = Some answer.Running
answer_from (Some form.Armed) words = Some answer.Armed
answer_from (Some form.Closed) words = Some answer.Closed
answer_from (Some form.Filled) words = Some (answer.Filled (amount (get_or words 0 [])))
answer_from (Some form.Stopped) words = Some (answer.Stopped (amount (get_or words 0 [])))
answer_from (Some form.Used) words = Some answer.Used
answer_from (Some form.Not) words = Some answer.NotBegun
answer_from (Some form.Asked) words = Some answer.Asked
answer_from (Some form.Unsent) words = Some answer.Unsent
answer_from (Some form.Down) words = Some (answer.Down (node_from (get_or words 0 [])))

-- the answer of its words
abbrev answer_back : List Word → Option Answer
answer_back [] = None
answer_back (word ∷ words) = answer_from (form_named word) words

answer_back-words : (a : Answer) → IsAnswer a → answer_back (answer_words a) ≡ Some a
answer_back-words (answer.Replied (reply.Rows rows)) it = ap (λ (rs : List Row). Some (answer.Replied (reply.Rows rs))) (rows_back-words rows)
answer_back-words (answer.Blocked txn) it = rw (value_of-decimal txn (omega (arith, it))) refl
answer_back-words (answer.Gone kept carried) it = rw (value_of-decimal kept (omega (arith, it.0)), value_of-decimal carried (omega (arith, it.1))) refl
answer_back-words (answer.Waiting member) it = rw (value_of-decimal member (omega (arith, it.1))) refl
answer_back-words (answer.Aborted cause.Vote) it = refl
answer_back-words (answer.Aborted cause.Timer) it = refl
answer_back-words (answer.Aborted cause.Client) it = refl
answer_back-words (answer.NoLost kept carried) it = rw (value_of-decimal kept (omega (arith, it.0)), value_of-decimal carried (omega (arith, it.1))) refl
answer_back-words (answer.Held txn) it = rw (value_of-decimal txn (omega (arith, it))) refl
answer_back-words (answer.Filled generation) it = rw (value_of-decimal generation (omega (arith, it))) refl
answer_back-words (answer.Stopped call) it = rw (value_of-decimal call (omega (arith, it.1))) refl
answer_back-words (answer.Down node) it = ap (λ n. Some (answer.Down n)) (node_same most_members most_coordinators node (omega arith) (omega arith) it)
answer_back-words (answer.Replied (reply.Got (Some value))) it = refl
answer_back-words (answer.Replied (reply.Got None)) it = refl
answer_back-words (answer.Replied reply.Done) it = refl
answer_back-words _ it = refl

answer_same : (a b : Answer) → IsAnswer a → IsAnswer b → answer_words a ≡ answer_words b → a ≡ b
answer_same a b p q e =
    let both : Some a ≡ Some b = sym (answer_back-words a p) ∙ ap answer_back e ∙ answer_back-words b q in
    cc

abbrev mark_from : Option MarkKind → List Word → Option Mark
mark_from None words = None
mark_from (Some kind) words = Some (record { node = node_from (get_or words 0 []); kind = kind; number = amount (get_or words 2 []) })

abbrev mark_back : List Word → Option Mark
mark_back words = mark_from (mark_named (get_or words 1 [])) words

mark_named-word : (k : MarkKind) → mark_named (mark_word k) ≡ Some k
mark_named-word mark.Header = refl
mark_named-word mark.Prepare = refl
mark_named-word mark.Commit = refl
mark_named-word mark.Abort = refl
mark_named-word mark.End = refl
mark_named-word mark.Checkpoint = refl

mark_back-words : (m : Mark) → IsMark m → mark_back (mark_words m) ≡ Some m
mark_back-words m it =
    ap (λ k. mark_from k (mark_words m)) (mark_named-word m.kind)
    ∙ ap (λ n. Some (record { node = n; kind = m.kind; number = amount (decimal m.number) })) (node_same most_members most_coordinators m.node (omega arith) (omega arith) it.0)
    ∙ ap (λ n. Some (record { node = m.node; kind = m.kind; number = n })) (value_of-decimal m.number (omega (arith, it.1)))

mark_same : (a b : Mark) → IsMark a → IsMark b → mark_words a ≡ mark_words b → a ≡ b
mark_same a b p q e =
    let both : Some a ≡ Some b = sym (mark_back-words a p) ∙ ap mark_back e ∙ mark_back-words b q in
    cc

message_same : (a b : Message) → IsMessageFor most_members most_coordinators a → IsMessageFor most_members most_coordinators b → message_words a ≡ message_words b → a ≡ b
message_same a b p q e =
    let both : Some a ≡ Some b = sym (message_back-words most_members most_coordinators a (omega arith) (omega arith) p) ∙ ap message_back e ∙ message_back-words most_members most_coordinators b (omega arith) (omega arith) q in
    cc

abbrev is_head : List Word → Bool
is_head words = bytes_eq (codes "members") (get_or words 0 [])

no_event_head : (e : Event) → is_head (event_words e) ≡ false
no_event_head (event.Begin t k) = refl
no_event_head _ = refl

no_head : (h : Head) (e : Event) → head_words h ≡ event_words e → ⊥
no_head h e same =
    let it : true ≡ false = ap is_head same ∙ no_event_head e in
    true_is_not_false it
  where
    true_is_not_false : true ≡ false → ⊥
    true_is_not_false it = cc

-- what an item tells, by its first word
abbrev told_form : ItemKind → ToldForm
told_form (item.Head a) = told.Event
told_form (item.Event a) = told.Event
told_form (item.Log a) = told.Log
told_form (item.Sent a) = told.Send
told_form (item.Answered a) = told.Reply

told_by_word : (a : ItemKind) → told_named (get_or (kind_words a) 0 []) ≡ Some (told_form a)
told_by_word (item.Head a) = refl
told_by_word (item.Event a) = refl
told_by_word (item.Log a) = refl
told_by_word (item.Sent a) = refl
told_by_word (item.Answered a) = refl

told_alike : (a b : ItemKind) → Some (told_form a) ≡ Some (told_form b) → IsTold a → IsTold b → drop 1 (kind_words a) ≡ drop 1 (kind_words b) → a ≡ b
told_alike (item.Head a) (item.Head b) t p q e = ap item.Head (head_same a b e)
told_alike (item.Head a) (item.Event b) t p q e = absurd (no_head a b e)
told_alike (item.Event a) (item.Head b) t p q e = absurd (no_head b a (sym e))
told_alike (item.Event a) (item.Event b) t p q e = ap item.Event (same_event most_members most_coordinators a b (omega arith) (omega arith) p.0 q.0 e)
told_alike (item.Log a) (item.Log b) t p q e = ap item.Log (mark_same a b p q e)
told_alike (item.Sent a) (item.Sent b) t p q e = ap item.Sent (message_same a b p q e)
told_alike (item.Answered a) (item.Answered b) t p q e = ap item.Answered (answer_same a b p q e)
told_alike _ _ t p q _ = absurd cc

told_same : (a b : ItemKind) → IsTold a → IsTold b → kind_words a ≡ kind_words b → a ≡ b
told_same a b p q e =
    told_alike a b (sym (told_by_word a) ∙ ap (λ (ws : List Word). told_named (get_or ws 0 [])) e ∙ told_by_word b) p q (ap (drop 1) e)

-- two items of the same words are the same
pub item_same : (a b : Item) → IsItem a → IsItem b → item_words a ≡ item_words b → a ≡ b
item_same a b p q e =
    let digits : amount (decimal a.number) ≡ amount (decimal b.number) = ap (λ (ws : List Word). amount (get_or ws 0 [])) e in
    let number : a.number ≡ b.number = sym (value_of-decimal a.number (omega (arith, p.0))) ∙ digits ∙ value_of-decimal b.number (omega (arith, q.0)) in
    let what : a.what ≡ b.what = told_same a.what b.what p.1 q.1 (ap (drop 1) e) in
    ap (λ n. record { number = n; what = a.what }) number ∙ ap (λ w. record { number = b.number; what = w }) what
