-- What items tell of moves: marks, messages and answers.
use Rattle.std.proofs.Common.{◌≡◌, ℕ, Bool, true, false, List, [], ◌∷◌, ◌++◌, map, reverse, Option, None, Some, refl, sym, ap, ◌∙◌, subst}
use Rattle.std.proofs.lemmas.List.{reverse-append}
use Rattle.co_base.specs.declared.mark.Mark.{Mark}
use Rattle.co_base.specs.declared.node.Node.{Node}
use Rattle.co_message.specs.declared.answer.Answer.{Answer}
use Rattle.co_message.specs.declared.event.Event.{Event}
use Rattle.co_message.specs.declared.item.ItemKind.{ItemKind}
use Rattle.co_message.specs.declared.item.ItemKind.TheVariants as item
use Rattle.co_message.specs.declared.message.Message.{Message}
use Rattle.co_record.specs.declared.record.Record.{Record}
use Rattle.co_record.specs.declared.record.Record.TheVariants as log
use Rattle.co_record.specs.Marks.{mark_of}
use Rattle.co_plain.specs.LogWrite.{marks_of}
use Rattle.co_plain.specs.Federation.{Federation, items_of}
use Rattle.co_plain.specs.CommitmentOrder.{Trace, Committed, traced_commit, traced_answer, trace_from}
use Rattle.co_plain.specs.Invariants.{ends_only}
use Rattle.co_plain.specs.Moves.{Move, Send, effect}
use Rattle.co_law_base.proofs.Facts.{Rest, OnlyAborts}
use Rattle.co_law_moves.specs.EventMoves.{sends, drop_moves}
use Rattle.co_law_moves.specs.MoveTraces.{move_trace, moves_trace, messages_in, sent_by, sent_by_move}

abbrev pub marks_trace : List Mark → List Trace
marks_trace [] = []
marks_trace (mark ∷ marks) = traced_commit mark.kind mark.node mark.number ++ marks_trace marks

abbrev pub answered : Option Event → Answer → List Trace
answered None a = []
answered (Some e) a = traced_answer e a

pub more : {A : Type 0} (xs ys zs : List A) → (xs ++ ys) ++ zs ≡ xs ++ (ys ++ zs)
more [] ys zs = refl
more (x ∷ xs) ys zs = ap (λ k. x ∷ k) (more xs ys zs)

log_items : (last : Option Event) (marks : List Mark) (rest : List ItemKind) → trace_from last (map item.Log marks ++ rest) ≡ marks_trace marks ++ trace_from last rest
log_items last [] rest = refl
log_items last (mark ∷ marks) rest =
    ap (λ k. traced_commit mark.kind mark.node mark.number ++ k) (log_items last marks rest)
    ∙ sym (more (traced_commit mark.kind mark.node mark.number) (marks_trace marks) (trace_from last rest))

sent_items : (last : Option Event) (notes : List Message) (rest : List ItemKind) → trace_from last (map item.Sent notes ++ rest) ≡ trace_from last rest
sent_items last [] rest = refl
sent_items last (note ∷ notes) rest = sent_items last notes rest

answer_item : (last : Option Event) (a : Answer) (rest : List ItemKind) → trace_from last (item.Answered a ∷ rest) ≡ answered last a ++ trace_from None rest
answer_item None a rest = refl
answer_item (Some e) a rest = refl

-- the items of an event
pub items_trace : (last : Option Event) (marks : List Mark) (notes : List Message) (a : Answer) (rest : List ItemKind) →
    trace_from last (items_of marks notes a ++ rest) ≡ marks_trace marks ++ (answered last a ++ trace_from None rest)
items_trace last marks notes a rest =
    ap (trace_from last) (more (map item.Log marks) (map item.Sent notes ++ item.Answered a ∷ []) rest)
    ∙ log_items last marks ((map item.Sent notes ++ item.Answered a ∷ []) ++ rest)
    ∙ ap (λ k. marks_trace marks ++ k) (ap (trace_from last) (more (map item.Sent notes) (item.Answered a ∷ []) rest) ∙ sent_items last notes (item.Answered a ∷ rest) ∙ answer_item last a rest)

-- marks, messages and an answer that tell of these moves alone
abbrev pub Tells : List Mark → List Message → Answer → List Move → Type 0
Tells marks notes a moves = ((s : Federation) → marks_trace marks ≡ moves_trace moves s) × ((e : Event) → traced_answer e a ≡ []) × (sent_by moves ≡ notes)

-- the messages among the items of an event
pub items_messages : (marks : List Mark) (notes : List Message) (a : Answer) → messages_in (items_of marks notes a) ≡ notes
items_messages (mark ∷ marks) notes a = items_messages marks notes a
items_messages [] (note ∷ notes) a = ap (λ k. note ∷ k) (items_messages [] notes a)
items_messages [] [] a = refl

-- messages that are sent, and behind another move
pub sent_back : (notes : List Message) → sent_by (sends notes) ≡ notes
sent_back [] = refl
sent_back (note ∷ notes) = ap (λ k. note ∷ k) (sent_back notes)

pub sent_behind : (move : Move) (notes : List Message) → sent_by_move move ≡ [] → sent_by (move ∷ sends notes) ≡ notes
sent_behind move notes e = (λ i. e i ++ sent_back notes i)

pub drops_sent : (b : Bool) (t m : ℕ) (note : Message) → sent_by (drop_moves b t m ++ Send note ∷ []) ≡ note ∷ []
drops_sent true t m note = refl
drops_sent false t m note = refl

pub tells_items : (last : Option Event) (marks : List Mark) (notes : List Message) (a : Answer) (moves : List Move) → Tells marks notes a moves → (s : Federation) (rest : List ItemKind) →
    trace_from last (items_of marks notes a ++ rest) ≡ moves_trace moves s ++ trace_from None rest
tells_items last marks notes a moves t s rest =
    items_trace last marks notes a rest ∙ (λ i. t.0 s i ++ (silent last i ++ trace_from None rest))
  where
    silent : (last : Option Event) → answered last a ≡ []
    silent None = refl
    silent (Some e) = t.1 e

-- records that are no commits
abbrev Silent : Record → Type 0
Silent (log.Header a b) = Unit {0}
Silent (log.Prepare a b c d e) = Unit {0}
Silent (log.Commit t members) = ⊥
Silent (log.Abort t) = Unit {0}
Silent (log.End t) = Unit {0}
Silent (log.Checkpoint a b c) = Unit {0}

abbrev pub AllSilent : List Record → Type 0
AllSilent [] = Unit {0}
AllSilent (r ∷ rs) = Silent r × AllSilent rs

silent_more : (xs ys : List Record) → AllSilent xs → AllSilent ys → AllSilent (xs ++ ys)
silent_more [] ys p q = q
silent_more (x ∷ xs) ys p q = (p.0, silent_more xs ys p.1 q)

silent_turned : (rs : List Record) → AllSilent rs → AllSilent (reverse rs)
silent_turned [] q = tt
silent_turned (r ∷ rs) q = subst AllSilent (sym (reverse-append (r ∷ []) rs)) (silent_more (reverse rs) (r ∷ []) (silent_turned rs q.1) (q.0, tt))

one_silent : (at : Node) (r : Record) → Silent r → traced_commit (mark_of at r).kind (mark_of at r).node (mark_of at r).number ≡ []
one_silent at (log.Header a b) s = refl
one_silent at (log.Prepare a b c d e) s = refl
one_silent at (log.Commit t members) s = absurd s
one_silent at (log.Abort t) s = refl
one_silent at (log.End t) s = refl
one_silent at (log.Checkpoint a b c) s = refl

all_silent : (at : Node) (rs : List Record) (rest : List Mark) → AllSilent rs → marks_trace (map (mark_of at) rs ++ rest) ≡ marks_trace rest
all_silent at [] rest s = refl
all_silent at (r ∷ rs) rest s = (λ i. one_silent at r s.0 i ++ all_silent at rs rest s.1 i)

pub no_rest : {A : Type 0} (xs : List A) → xs ++ [] ≡ xs
no_rest [] = refl
no_rest (x ∷ xs) = ap (λ ys. x ∷ ys) (no_rest xs)

map_more : {A B : Type 0} (f : A → B) (xs ys : List A) → map f (xs ++ ys) ≡ map f xs ++ map f ys
map_more f [] ys = refl
map_more f (x ∷ xs) ys = ap (λ zs. f x ∷ zs) (map_more f xs ys)

pub silent_marks : (at : Node) (rs : List Record) → AllSilent rs → marks_trace (marks_of at rs) ≡ []
silent_marks at rs s = ap marks_trace (sym (no_rest (map (mark_of at) (reverse rs)))) ∙ all_silent at (reverse rs) [] (silent_turned rs s)

pub commit_told : (at : Node) (t : ℕ) (members : List ℕ) (rs : List Record) → AllSilent rs → marks_trace (marks_of at (log.Commit t members ∷ rs)) ≡ Committed at t ∷ []
commit_told at t members rs s =
    ap (λ k. marks_trace (map (mark_of at) k)) (reverse-append (log.Commit t members ∷ []) rs)
    ∙ ap marks_trace (map_more (mark_of at) (reverse rs) (log.Commit t members ∷ []))
    ∙ all_silent at (reverse rs) (map (mark_of at) (log.Commit t members ∷ [])) (silent_turned rs s)

pub aborts_silent : (r : Rest) (rs : List Record) → OnlyAborts r rs → AllSilent rs
aborts_silent r [] w = tt
aborts_silent r (log.Abort t ∷ rs) w = (tt, aborts_silent r rs w.1)
aborts_silent r (log.Header a b ∷ rs) w = absurd w
aborts_silent r (log.Prepare a b c d e ∷ rs) w = absurd w
aborts_silent r (log.Commit a b ∷ rs) w = absurd w
aborts_silent r (log.End a ∷ rs) w = absurd w
aborts_silent r (log.Checkpoint a b c ∷ rs) w = absurd w

pub ends_silent : (rs : List Record) → ends_only rs ≡ true → AllSilent rs
ends_silent [] e = tt
ends_silent (log.End t ∷ rs) e = (tt, ends_silent rs e)
ends_silent (log.Header a b ∷ rs) e = absurd (let z : false ≡ true = e in cc)
ends_silent (log.Prepare a b c d x ∷ rs) e = absurd (let z : false ≡ true = e in cc)
ends_silent (log.Commit a b ∷ rs) e = absurd (let z : false ≡ true = e in cc)
ends_silent (log.Abort a ∷ rs) e = absurd (let z : false ≡ true = e in cc)
ends_silent (log.Checkpoint a b c ∷ rs) e = absurd (let z : false ≡ true = e in cc)

-- messages tell nothing of this
pub sends_trace : (notes : List Message) (s : Federation) → moves_trace (sends notes) s ≡ []
sends_trace [] s = refl
sends_trace (note ∷ notes) s = sends_trace notes (effect s (Send note))

pub then_sends : (move : Move) (notes : List Message) (s : Federation) → move_trace s move ++ [] ≡ moves_trace (move ∷ sends notes) s
then_sends move notes s = ap (λ k. move_trace s move ++ k) (sym (sends_trace notes (effect s move)))

pub drops_trace : (b : Bool) (t m : ℕ) (note : Message) (s : Federation) → moves_trace (drop_moves b t m ++ Send note ∷ []) s ≡ []
drops_trace true t m note s = refl
drops_trace false t m note s = refl

-- a step of a member
