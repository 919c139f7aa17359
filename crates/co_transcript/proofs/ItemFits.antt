-- The words of each item fit the places of items.
use Rattle.std.proofs.Common.{◌≡◌, ℕ, ◌+◌, ◌*◌, ◌≤◌, true, List, [], ◌∷◌, ◌++◌, length, map, None, Some, refl, sym, ap, subst, arith, length-append}
use Rattle.std.specs.Prelude.{decimal, codes}
use Rattle.std.specs.Ordering.{is_lt}
use Rattle.std.specs.List.Sorted.{IsStrictlySortedBy}
use Rattle.std.specs.List.{AllByRecursion}
use Rattle.std.specs.declared.cmp.Ordering.TheVariants.{Less}
use Rattle.std.proofs.lemmas.Fmt.{length-decimal-le_succ}
use Rattle.co_base.specs.Letters.{most_key_bytes}
use Rattle.co_base.specs.Order.{key_cmp}
use Rattle.co_base.specs.RowOrder.{IsInKeyOrder}
use Rattle.co_base.specs.declared.head.Head.{Head}
use Rattle.co_base.specs.declared.head.Kind.{Kind}
use Rattle.co_base.specs.declared.head.Kind.TheVariants.{Lock, Occ, Mv}
use Rattle.co_base.specs.declared.row.Row.{Row}
use Rattle.co_base.specs.declared.reply.Reply.TheVariants as reply
use Rattle.co_base.specs.declared.mark.Mark.{Mark}
use Rattle.co_base.specs.declared.mark.MarkKind.{MarkKind}
use Rattle.co_base.specs.declared.mark.MarkKind.TheVariants as mark
use Rattle.co_base.specs.Limits.{most_coordinators, most_members}
use Rattle.co_message.specs.declared.answer.Cause.{Cause}
use Rattle.co_message.specs.declared.answer.Cause.TheVariants as cause
use Rattle.co_message.specs.declared.answer.Answer.{Answer}
use Rattle.co_message.specs.declared.answer.Answer.TheVariants as answer
use Rattle.co_message.specs.declared.event.Event.{Event}
use Rattle.co_message.specs.declared.event.Event.TheVariants as event
use Rattle.co_message.specs.declared.item.Item.{Item}
use Rattle.co_message.specs.declared.item.ItemKind.{ItemKind}
use Rattle.co_message.specs.declared.item.ItemKind.TheVariants as item
use Rattle.co_schedule.specs.Limits.{longest_line}
use Rattle.co_schedule.specs.Words.{Word, behind}
use Rattle.co_schedule.specs.Spelling.{kind_word, event_words, line_text, head_text}
use Rattle.co_schedule.specs.Places.{Want, key, key_above, value, one_of, is_in, is_text, Places}
use Rattle.co_schedule.specs.View.{IsKey, IsEventFor}
use Rattle.co_schedule.proofs.Numbers.{and_true, value_of-decimal}
use Rattle.co_schedule.proofs.Texts.{is_text-IsText}
use Rattle.co_schedule.proofs.Fitting.{Taken, Fits, number_taken, member_taken, node_taken, key_taken, value_taken}
use Rattle.co_schedule.proofs.Complete.{txn_taken, count_taken, message_fits, event_fits}
use Rattle.co_schedule.proofs.Heads.{head_fits}
use Rattle.co_transcript.specs.Spelling.{mark_word, cause_word, row_words, answer_words, mark_words, kind_words, item_words}
use Rattle.co_transcript.specs.Grammar.{rows_places, reply_places, log_places, line_places, all_marks, all_causes, item_places}
use Rattle.co_transcript.specs.Items.{AreRows, IsAnswer, IsMark, IsTold, IsItem}

-- every number of an item
number_fits : (n : ℕ) → n ≤ 4294967295 → Taken (Rattle.co_schedule.specs.Places.number 0 4294967295) (decimal n)
number_fits n it = number_taken 0 4294967295 n (omega arith) it (omega arith)

mark_taken : (k : MarkKind) → Taken (one_of (map mark_word all_marks)) (mark_word k)
mark_taken mark.Header = record { wanted = refl; whole = refl }
mark_taken mark.Prepare = record { wanted = refl; whole = refl }
mark_taken mark.Commit = record { wanted = refl; whole = refl }
mark_taken mark.Abort = record { wanted = refl; whole = refl }
mark_taken mark.End = record { wanted = refl; whole = refl }
mark_taken mark.Checkpoint = record { wanted = refl; whole = refl }

cause_taken : (k : Cause) → Taken (one_of (map cause_word all_causes)) (cause_word k)
cause_taken cause.Vote = record { wanted = refl; whole = refl }
cause_taken cause.Timer = record { wanted = refl; whole = refl }
cause_taken cause.Client = record { wanted = refl; whole = refl }

mark_fits : (m : Mark) → IsMark m → Fits log_places (mark_words m)
mark_fits m it = (node_taken most_members most_coordinators m.node it.0 (omega arith) (omega arith), (mark_taken m.kind, (number_fits m.number it.1, tt)))

key_above_taken : (before text : Word) → IsKey text → key_cmp before text ≡ Less → Taken (key_above before) text
key_above_taken before text it above =
    let e = is_text-IsText most_key_bytes text it in
    record { wanted = and_true _ _ e (ap is_lt above); whole = (key_taken text it).whole }

above_fits : (before : Word) (rows : List Row) → AllByRecursion (λ y. key_cmp before y ≡ Less) (map (λ r. r.key) rows) → IsInKeyOrder rows → AreRows rows → Fits (rows_places (length rows) (Some before)) (row_words rows)
unfolding IsStrictlySortedBy
above_fits before [] above order texts = tt
above_fits before (row ∷ rows) above order texts =
    (key_above_taken before row.key texts.0 above.0, (value_taken row.value texts.1, above_fits row.key rows order.0 order.1 texts.2))

rows_fits : (rows : List Row) → IsInKeyOrder rows → AreRows rows → Fits (rows_places (length rows) None) (row_words rows)
unfolding IsStrictlySortedBy
rows_fits [] order texts = tt
rows_fits (row ∷ rows) order texts =
    (key_taken row.key texts.0, (value_taken row.value texts.1, above_fits row.key rows order.0 order.1 texts.2))

word_taken : {words : List Word} {word : Word} → is_in (one_of words) word ≡ true → Rattle.co_schedule.proofs.Fitting.no_space word ≡ true → Taken (one_of words) word
word_taken e f = record { wanted = e; whole = f }

pub answer_fits : (a : Answer) → IsAnswer a → Fits reply_places (answer_words a)
answer_fits (answer.Replied (reply.Got (Some text))) it = (word_taken refl refl, (value_taken text it, tt))
answer_fits (answer.Replied reply.Done) it = (word_taken refl refl, tt)
answer_fits (answer.Replied (reply.Got None)) it = (word_taken refl refl, tt)
answer_fits (answer.Replied (reply.Rows rows)) it =
    (word_taken refl refl, (number_fits (length rows) it.2, subst (λ n. Fits (rows_places n None) (row_words rows)) (sym (value_of-decimal (length rows) (omega (arith, it.2)))) (rows_fits rows it.0 it.1)))
answer_fits (answer.Blocked txn) it = (word_taken refl refl, (txn_taken txn it, tt))
answer_fits (answer.Gone kept carried) it = (word_taken refl refl, (count_taken kept it.0, (count_taken carried it.1, tt)))
answer_fits answer.TooMany it = (word_taken refl refl, (word_taken refl refl, tt))
answer_fits (answer.Waiting member) it = (word_taken refl refl, (member_taken 16 member it (omega arith), tt))
answer_fits (answer.Aborted by) it = (word_taken refl refl, (cause_taken by, tt))
answer_fits (answer.NoLost kept carried) it = (word_taken refl refl, (word_taken refl refl, (count_taken kept it.0, (count_taken carried it.1, tt))))
answer_fits (answer.NoStale text) it = (word_taken refl refl, (word_taken refl refl, (key_taken text it, tt)))
answer_fits (answer.Held txn) it = (word_taken refl refl, (txn_taken txn it, tt))
answer_fits (answer.Filled generation) it = (word_taken refl refl, (number_fits generation it, tt))
answer_fits (answer.Stopped call) it = (word_taken refl refl, (number_taken 1 4 call it.0 it.1 (omega arith), tt))
answer_fits answer.NotBegun it = (word_taken refl refl, (word_taken refl refl, tt))
answer_fits (answer.Down node) it = (word_taken refl refl, (node_taken most_members most_coordinators node it (omega arith) (omega arith), tt))
answer_fits _ it = (word_taken refl refl, tt)

kinds_short : (kinds : List Kind) (words : List Word) → length (behind (map kind_word kinds ++ words)) ≤ 5 * length kinds + length (behind words)
kinds_short [] words = omega arith
kinds_short (Lock ∷ kinds) words = omega (arith, kinds_short kinds words)
kinds_short (Occ ∷ kinds) words = omega (arith, kinds_short kinds words)
kinds_short (Mv ∷ kinds) words = omega (arith, kinds_short kinds words)

-- a head is no longer than a line
pub head_short : (head : Head) → length (head_text head) ≤ longest_line
head_short head =
    let digits : length (decimal head.coords) ≤ 9 = omega (arith, length-decimal-le_succ head.coords (omega (arith, head.coordinators)), head.coordinators) in
    omega (arith, kinds_short head.kinds (codes "coords" ∷ decimal head.coords ∷ []), head.members, digits, length-append (decimal head.coords) [])

line_fits : (e : Event) → IsEventFor most_members most_coordinators e → length (line_text e) ≤ longest_line → Fits line_places (event_words e)
line_fits (event.Begin t k) it short = (short, (word_taken refl refl, (event_fits most_members most_coordinators (event.Begin t k) (omega arith) (omega arith) it).1))
line_fits e it short = (short, (word_taken refl refl, (event_fits most_members most_coordinators e (omega arith) (omega arith) it).1))

told_fits : (what : ItemKind) → IsTold what → (number : ℕ) → number ≤ 4294967295 → Fits item_places (decimal number ∷ kind_words what)
told_fits (item.Head head) it n small = (number_fits n small, (word_taken refl refl, (head_short head, (word_taken refl refl, (head_fits head).1))))
told_fits (item.Event e) it n small = (number_fits n small, (word_taken refl refl, line_fits e it.0 it.1))
told_fits (item.Log m) it n small = (number_fits n small, (word_taken refl refl, mark_fits m it))
told_fits (item.Sent m) it n small = (number_fits n small, (word_taken refl refl, message_fits most_members most_coordinators m (omega arith) (omega arith) it))
told_fits (item.Answered a) it n small = (number_fits n small, (word_taken refl refl, answer_fits a it))

pub item_fits : (i : Item) → IsItem i → Fits item_places (item_words i)
item_fits i it = told_fits i.what it.1 i.number it.0
