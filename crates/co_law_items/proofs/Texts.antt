-- Every item has a short line but for the reply to a scan, whose line is as long as its records.
use Rattle.std.proofs.Common.{◌≡◌, ℕ, suc, Bool, true, false, ◌+◌, ◌*◌, ◌≤◌, List, [], ◌∷◌, length, None, Some, refl, arith, length-append}
use Rattle.std.proofs.lemmas.Fmt.{length-decimal-le}
use Rattle.std.specs.List.{AllByRecursion}
use Rattle.std.specs.Prelude.{decimal, codes}
use Rattle.co_base.specs.declared.mark.Mark.{Mark}
use Rattle.co_base.specs.declared.mark.MarkKind.{MarkKind}
use Rattle.co_base.specs.declared.mark.MarkKind.TheVariants as mark
use Rattle.co_base.specs.declared.node.Node.{Node}
use Rattle.co_base.specs.declared.node.Node.TheVariants as node
use Rattle.co_base.specs.declared.reply.Reply.{Reply}
use Rattle.co_base.specs.declared.reply.Reply.TheVariants as reply
use Rattle.co_base.specs.declared.row.Row.{Row}
use Rattle.co_base.specs.Limits.{most_coordinators, most_members}
use Rattle.co_message.specs.declared.answer.Answer.{Answer}
use Rattle.co_message.specs.declared.answer.Answer.TheVariants as answer
use Rattle.co_message.specs.declared.answer.Cause.{Cause}
use Rattle.co_message.specs.declared.answer.Cause.TheVariants as cause
use Rattle.co_message.specs.declared.item.Item.{Item}
use Rattle.co_message.specs.declared.item.ItemKind.{ItemKind}
use Rattle.co_message.specs.declared.item.ItemKind.TheVariants as item
use Rattle.co_message.specs.declared.message.Message.{Message}
use Rattle.co_message.specs.declared.message.Message.TheVariants as message
use Rattle.co_schedule.specs.Spelling.{node_word, vote_word, decision_word, message_words, event_words, head_words}
use Rattle.co_schedule.specs.View.{IsWithin, IsNode, IsMessageFor}
use Rattle.co_schedule.specs.Words.{Word, space, behind, spaced}
use Rattle.co_transcript.proofs.ItemFits.{head_short}
use Rattle.co_transcript.specs.Items.{AreRows, IsAnswer, IsMark, IsTold, IsItem}
use Rattle.co_transcript.specs.Spelling.{mark_word, cause_word, row_words, answer_words, mark_words, kind_words, item_text}
use Rattle.co_law_items.specs.Scans.{IsWithinIfScan, HasShortScan}

abbrev Short : Word → Type 0
Short w = length w ≤ 32

behind_short : (ws : List Word) → AllByRecursion Short ws → length (behind ws) ≤ 33 * length ws
behind_short [] h = omega arith
behind_short (w ∷ ws) h = let r = behind_short ws h.1 in let a = length-append (space ∷ w) (behind ws) in let f = h.0 in omega (arith, r, a, f)

digits : (n : ℕ) → n ≤ 4294967295 → length (decimal n) ≤ 10
digits n h = length-decimal-le 10 n (omega arith) (omega (arith, h)) (omega (arith, h))

number_short : (n : ℕ) → n ≤ 4294967295 → Short (decimal n)
number_short n h = let d = digits n h in omega (arith, d)

near_short : (high n : ℕ) → high ≤ 255 → IsWithin 1 high n → length (decimal n) ≤ 10
near_short high n l h = let up = h.1 in digits n (omega (arith, l, up))

node_short : (at : Node) → IsNode most_members most_coordinators at → Short (node_word at)
node_short (node.Member m) h = let d = near_short 16 m (omega arith) h in omega (arith, d)
node_short (node.Coord c) h = let d = near_short 8 c (omega arith) h in omega (arith, d)

member_short : (m : ℕ) → IsWithin 1 most_members m → Short (109 ∷ decimal m)
member_short m h = node_short (node.Member m) h

coord_short : (c : ℕ) → IsWithin 1 most_coordinators c → Short (99 ∷ decimal c)
coord_short c h = node_short (node.Coord c) h

count_short : (n : ℕ) → n ≤ 65535 → Short (decimal n)
count_short n h = number_short n (omega (arith, h))

said_short : (b : Bool) → Short (vote_word b)
said_short true = omega arith
said_short false = omega arith

verdict_short : (b : Bool) → Short (decision_word b)
verdict_short true = omega arith
verdict_short false = omega arith

kind_short : (k : MarkKind) → Short (mark_word k)
kind_short mark.Header = omega arith
kind_short mark.Prepare = omega arith
kind_short mark.Commit = omega arith
kind_short mark.Abort = omega arith
kind_short mark.End = omega arith
kind_short mark.Checkpoint = omega arith

cause_short : (k : Cause) → Short (cause_word k)
cause_short cause.Vote = omega arith
cause_short cause.Timer = omega arith
cause_short cause.Client = omega arith

-- a few words, none of them long
abbrev AreFewWords : List Word → Type 0
AreFewWords ws = AllByRecursion Short ws × (length ws ≤ 6)

message_short : (note : Message) → IsMessageFor most_members most_coordinators note → AreFewWords (message_words note)
message_short (message.Prepare t c m count) h =
    ((omega arith, (number_short t h.0, (coord_short c h.1, (member_short m h.2, (count_short count h.3, tt))))), omega arith)
message_short (message.Vote t m c granted) h = ((omega arith, (number_short t h.0, (member_short m h.1, (coord_short c h.2, (said_short granted, tt))))), omega arith)
message_short (message.Decide t c m commit) h = ((omega arith, (number_short t h.0, (coord_short c h.1, (member_short m h.2, (verdict_short commit, tt))))), omega arith)
message_short (message.Ask t m c) h = ((omega arith, (number_short t h.0, (member_short m h.1, (coord_short c h.2, tt)))), omega arith)
message_short (message.Ack t m c) h = ((omega arith, (number_short t h.0, (member_short m h.1, (coord_short c h.2, tt)))), omega arith)

mark_short : (m : Mark) → IsMark m → AreFewWords (mark_words m)
mark_short m h = ((node_short m.node h.0, (kind_short m.kind, (number_short m.number h.1, tt))), omega arith)

answer_short : (a : Answer) → IsAnswer a → ((r : Reply) → a ≡ answer.Replied r → ⊥) → AreFewWords (answer_words a)
answer_short (answer.Replied r) h n = absurd (n r refl)
answer_short (answer.Blocked t) h n = ((omega arith, (number_short t h, tt)), omega arith)
answer_short (answer.Gone kept carried) h n = ((omega arith, (count_short kept h.0, (count_short carried h.1, tt))), omega arith)
answer_short answer.TooMany h n = ((omega arith, (omega arith, tt)), omega arith)
answer_short (answer.Waiting m) h n = ((omega arith, (member_short m h, tt)), omega arith)
answer_short (answer.Aborted by) h n = ((omega arith, (cause_short by, tt)), omega arith)
answer_short (answer.NoLost kept carried) h n = ((omega arith, (omega arith, (count_short kept h.0, (count_short carried h.1, tt)))), omega arith)
answer_short (answer.NoStale key) h n = ((omega arith, (omega arith, ((let l = h.0.1 in omega (arith, l)), tt))), omega arith)
answer_short (answer.Held t) h n = ((omega arith, (number_short t h, tt)), omega arith)
answer_short (answer.Filled generation) h n = ((omega arith, (number_short generation h, tt)), omega arith)
answer_short (answer.Stopped call) h n = ((omega arith, ((let l = h.1 in number_short call (omega (arith, l))), tt)), omega arith)
answer_short answer.NotBegun h n = ((omega arith, (omega arith, tt)), omega arith)
answer_short (answer.Down at) h n = ((omega arith, (node_short at h, tt)), omega arith)
answer_short _ h n = ((omega arith, tt), omega arith)

-- ---- lines

line_of : (n : ℕ) → n ≤ 4294967295 → (form : Word) → length form ≤ 5 → (words : List Word) → length (spaced (decimal n ∷ form ∷ words)) ≤ most_members + length (behind words)
line_of n small form l words =
    let d = digits n small in
    let a = length-append (decimal n) (behind (form ∷ words)) in
    let b = length-append (space ∷ form) (behind words) in omega (arith, d, a, b, l)

-- words behind a space are one byte longer
behind_line : (words : List Word) → length (behind words) ≤ suc (length (spaced words))
behind_line [] = omega arith
behind_line (w ∷ ws) = let a = length-append (space ∷ w) (behind ws) in let b = length-append w (behind ws) in omega (arith, a, b)

module _ (most : ℕ) (enough : 8209 ≤ most) (n : ℕ) (small : n ≤ 4294967295) where
  few_words : (form : Word) → length form ≤ 5 → (words : List Word) → AreFewWords words → length (spaced (decimal n ∷ form ∷ words)) ≤ most
  few_words form l words h =
      let a = line_of n small form l words in
      let b = behind_short words h.0 in
      let c = h.1 in omega (arith, a, b, c, enough)

  long_line : (form : Word) → length form ≤ 5 → (words : List Word) → length (spaced words) ≤ 8192 → length (spaced (decimal n ∷ form ∷ words)) ≤ most
  long_line form l words h =
      let a = line_of n small form l words in
      let b = behind_line words in omega (arith, a, b, h, enough)

  short_answer : (a : Answer) → IsAnswer a → IsWithinIfScan most (item.Answered a) (length (spaced (decimal n ∷ codes "reply" ∷ answer_words a))) →
      length (spaced (decimal n ∷ codes "reply" ∷ answer_words a)) ≤ most
  short_answer (answer.Replied (reply.Rows rows)) h s = s
  short_answer (answer.Replied (reply.Got (Some value))) h s =
      let a = line_of n small (codes "reply") (omega arith) (codes "got" ∷ value ∷ []) in
      let b = length-append (space ∷ value) [] in
      let c = h.0.1 in omega (arith, a, b, c, enough)
  short_answer (answer.Replied (reply.Got None)) h s = few_words (codes "reply") (omega arith) (codes "missing" ∷ []) ((omega arith, tt), omega arith)
  short_answer (answer.Replied reply.Done) h s = few_words (codes "reply") (omega arith) (codes "done" ∷ []) ((omega arith, tt), omega arith)
  short_answer a h s = few_words (codes "reply") (omega arith) (answer_words a) (answer_short a h (λ r e. absurd (let z = e in cc)))

  short_kind : (what : ItemKind) → IsTold what → IsWithinIfScan most what (length (spaced (decimal n ∷ kind_words what))) → length (spaced (decimal n ∷ kind_words what)) ≤ most
  short_kind (item.Head head) h s = long_line (codes "event") (omega arith) (head_words head) (head_short head)
  short_kind (item.Event e) h s = long_line (codes "event") (omega arith) (event_words e) h.1
  short_kind (item.Log m) h s = few_words (codes "log") (omega arith) (mark_words m) (mark_short m h)
  short_kind (item.Sent note) h s = few_words (codes "send") (omega arith) (message_words note) (message_short note h)
  short_kind (item.Answered a) h s = short_answer a h s

pub short_item : (most : ℕ) (i : Item) → 8209 ≤ most → IsItem i → HasShortScan most i → length (item_text i) ≤ most
short_item most i enough h s = short_kind most enough i.number h.0 i.what h.1 s

-- ---- the line of a scan

rows_long : (rows : List Row) → AreRows rows → length (behind (row_words rows)) ≤ 4130 * length rows
rows_long [] h = omega arith
rows_long (row ∷ rows) h =
    let r = rows_long rows h.2 in
    let a = length-append (space ∷ row.key) (behind (row.value ∷ row_words rows)) in
    let b = length-append (space ∷ row.value) (behind (row_words rows)) in
    let c = h.0.0.1 in
    let d = h.1.0.1 in omega (arith, r, a, b, c, d)

-- the reply to a scan of so many records
pub scan_long : (n : ℕ) → n ≤ 4294967295 → (rows : List Row) → AreRows rows → length rows ≤ 4294967295 →
    length (spaced (decimal n ∷ kind_words (item.Answered (answer.Replied (reply.Rows rows))))) ≤ 32 + 4130 * length rows
scan_long n small rows h few =
    let a = line_of n small (codes "reply") (omega arith) (codes "rows" ∷ decimal (length rows) ∷ row_words rows) in
    let b = length-append (space ∷ codes "rows") (behind (decimal (length rows) ∷ row_words rows)) in
    let c = length-append (space ∷ decimal (length rows)) (behind (row_words rows)) in
    let d = digits (length rows) few in
    let e = rows_long rows h in omega (arith, a, b, c, d, e)
