-- What items tell of forced records: the prepares and the commits among the marks, and the moves that force them.
use Rattle.std.proofs.Common.{◌≡◌, ℕ, Bool, true, false, List, [], ◌∷◌, ◌++◌, map, reverse, refl, sym, ap, ◌∙◌, subst}
use Rattle.std.proofs.lemmas.List.{reverse-append}
use Rattle.co_base.specs.declared.mark.Mark.{Mark}
use Rattle.co_base.specs.declared.mark.MarkKind.{MarkKind}
use Rattle.co_base.specs.declared.mark.MarkKind.TheVariants as kind
use Rattle.co_base.specs.declared.node.Node.{Node}
use Rattle.co_base.specs.declared.node.Node.TheVariants as node
use Rattle.co_message.specs.declared.answer.Answer.{Answer}
use Rattle.co_message.specs.declared.item.ItemKind.{ItemKind}
use Rattle.co_message.specs.declared.item.ItemKind.TheVariants as item
use Rattle.co_message.specs.declared.message.Message.{Message}
use Rattle.co_record.specs.declared.record.Record.{Record}
use Rattle.co_record.specs.declared.record.Record.TheVariants as log
use Rattle.co_record.specs.Marks.{mark_of}
use Rattle.co_plain.specs.Federation.{items_of}
use Rattle.co_plain.specs.Invariants.{ends_only}
use Rattle.co_plain.specs.LogWrite.{marks_of}
use Rattle.co_plain.specs.Moves.{Move, Cast, Install, CommitLocally, Decide, Send}
use Rattle.co_law_base.proofs.Facts.{Rest, OnlyAborts}
use Rattle.co_law_moves.specs.EventMoves.{sends, drop_moves}

-- a prepare and a commit are forced; ends and aborts wait for the next write, headers and checkpoints are of no transaction
abbrev pub forced_mark : MarkKind → Mark → List Mark
forced_mark kind.Prepare mark = mark ∷ []
forced_mark kind.Commit mark = mark ∷ []
forced_mark _ mark = []

abbrev pub forced_among : List Mark → List Mark
forced_among [] = []
forced_among (mark ∷ marks) = forced_mark mark.kind mark ++ forced_among marks

abbrev pub forced_in : List ItemKind → List Mark
forced_in [] = []
forced_in (item.Log mark ∷ items) = forced_mark mark.kind mark ++ forced_in items
forced_in (item.Head head ∷ items) = forced_in items
forced_in (item.Event e ∷ items) = forced_in items
forced_in (item.Sent note ∷ items) = forced_in items
forced_in (item.Answered a ∷ items) = forced_in items

-- the marks of the records that a move forces
abbrev pub move_marks : Move → List Mark
move_marks (Cast t m c n) = record { node = node.Member m; kind = kind.Prepare; number = t } ∷ []
move_marks (Install t m) = record { node = node.Member m; kind = kind.Commit; number = t } ∷ []
move_marks (CommitLocally t m) = record { node = node.Member m; kind = kind.Prepare; number = t } ∷ record { node = node.Member m; kind = kind.Commit; number = t } ∷ []
move_marks (Decide t c) = record { node = node.Coord c; kind = kind.Commit; number = t } ∷ []
move_marks _ = []

abbrev pub marks_by : List Move → List Mark
marks_by [] = []
marks_by (move ∷ moves) = move_marks move ++ marks_by moves

-- marks that tell of what these moves force alone
abbrev pub Tells : List Mark → List Move → Type 0
Tells marks moves = forced_among marks ≡ marks_by moves

-- ---- lists

pub joined : {A : Type 0} (xs ys zs : List A) → (xs ++ ys) ++ zs ≡ xs ++ (ys ++ zs)
joined [] ys zs = refl
joined (x ∷ xs) ys zs = ap (λ k. x ∷ k) (joined xs ys zs)

no_rest : {A : Type 0} (xs : List A) → xs ++ [] ≡ xs
no_rest [] = refl
no_rest (x ∷ xs) = ap (λ ys. x ∷ ys) (no_rest xs)

map_more : {A B : Type 0} (f : A → B) (xs ys : List A) → map f (xs ++ ys) ≡ map f xs ++ map f ys
map_more f [] ys = refl
map_more f (x ∷ xs) ys = ap (λ zs. f x ∷ zs) (map_more f xs ys)

pub marks_more : (xs ys : List Move) → marks_by (xs ++ ys) ≡ marks_by xs ++ marks_by ys
marks_more [] ys = refl
marks_more (x ∷ xs) ys = ap (λ k. move_marks x ++ k) (marks_more xs ys) ∙ sym (joined (move_marks x) (marks_by xs) (marks_by ys))

pub forced_more : (xs ys : List ItemKind) → forced_in (xs ++ ys) ≡ forced_in xs ++ forced_in ys
forced_more [] ys = refl
forced_more (item.Log mark ∷ xs) ys =
    ap (λ k. forced_mark mark.kind mark ++ k) (forced_more xs ys) ∙ sym (joined (forced_mark mark.kind mark) (forced_in xs) (forced_in ys))
forced_more (item.Head head ∷ xs) ys = forced_more xs ys
forced_more (item.Event e ∷ xs) ys = forced_more xs ys
forced_more (item.Sent note ∷ xs) ys = forced_more xs ys
forced_more (item.Answered a ∷ xs) ys = forced_more xs ys

-- the items of an event tell of its marks
pub items_forced : (marks : List Mark) (notes : List Message) (a : Answer) → forced_in (items_of marks notes a) ≡ forced_among marks
items_forced (mark ∷ marks) notes a = ap (λ k. forced_mark mark.kind mark ++ k) (items_forced marks notes a)
items_forced [] (note ∷ notes) a = items_forced [] notes a
items_forced [] [] a = refl

-- ---- records that wait: they go out with a forced one

abbrev Waits : Record → Type 0
Waits (log.Header a b) = ⊥
Waits (log.Prepare a b c d e) = ⊥
Waits (log.Commit t members) = ⊥
Waits (log.Abort t) = Unit {0}
Waits (log.End t) = Unit {0}
Waits (log.Checkpoint a b c) = ⊥

abbrev pub AllWait : List Record → Type 0
AllWait [] = Unit {0}
AllWait (r ∷ rs) = Waits r × AllWait rs

wait_more : (xs ys : List Record) → AllWait xs → AllWait ys → AllWait (xs ++ ys)
wait_more [] ys p q = q
wait_more (x ∷ xs) ys p q = (p.0, wait_more xs ys p.1 q)

wait_turned : (rs : List Record) → AllWait rs → AllWait (reverse rs)
wait_turned [] q = tt
wait_turned (r ∷ rs) q = subst AllWait (sym (reverse-append (r ∷ []) rs)) (wait_more (reverse rs) (r ∷ []) (wait_turned rs q.1) (q.0, tt))

one_waits : (at : Node) (r : Record) → Waits r → forced_mark (mark_of at r).kind (mark_of at r) ≡ []
one_waits at (log.Header a b) w = absurd w
one_waits at (log.Prepare a b c d e) w = absurd w
one_waits at (log.Commit t members) w = absurd w
one_waits at (log.Abort t) w = refl
one_waits at (log.End t) w = refl
one_waits at (log.Checkpoint a b c) w = absurd w

all_wait : (at : Node) (rs : List Record) (rest : List Mark) → AllWait rs → forced_among (map (mark_of at) rs ++ rest) ≡ forced_among rest
all_wait at [] rest w = refl
all_wait at (r ∷ rs) rest w = (λ i. one_waits at r w.0 i ++ all_wait at rs rest w.1 i)

-- a batch over records that wait tells what it tells alone
pub batch_told : (at : Node) (batch waiting : List Record) → AllWait waiting → forced_among (marks_of at (batch ++ waiting)) ≡ forced_among (marks_of at batch)
batch_told at batch waiting w =
    ap (λ k. forced_among (map (mark_of at) k)) (reverse-append batch waiting)
    ∙ ap forced_among (map_more (mark_of at) (reverse waiting) (reverse batch))
    ∙ all_wait at (reverse waiting) (map (mark_of at) (reverse batch)) (wait_turned waiting w)

pub aborts_wait : (r : Rest) (rs : List Record) → OnlyAborts r rs → AllWait rs
aborts_wait r [] w = tt
aborts_wait r (log.Abort t ∷ rs) w = (tt, aborts_wait r rs w.1)
aborts_wait r (log.Header a b ∷ rs) w = absurd w
aborts_wait r (log.Prepare a b c d e ∷ rs) w = absurd w
aborts_wait r (log.Commit a b ∷ rs) w = absurd w
aborts_wait r (log.End a ∷ rs) w = absurd w
aborts_wait r (log.Checkpoint a b c ∷ rs) w = absurd w

pub ends_wait : (rs : List Record) → ends_only rs ≡ true → AllWait rs
ends_wait [] e = tt
ends_wait (log.End t ∷ rs) e = (tt, ends_wait rs e)
ends_wait (log.Header a b ∷ rs) e = absurd (let z : false ≡ true = e in cc)
ends_wait (log.Prepare a b c d x ∷ rs) e = absurd (let z : false ≡ true = e in cc)
ends_wait (log.Commit a b ∷ rs) e = absurd (let z : false ≡ true = e in cc)
ends_wait (log.Abort a ∷ rs) e = absurd (let z : false ≡ true = e in cc)
ends_wait (log.Checkpoint a b c ∷ rs) e = absurd (let z : false ≡ true = e in cc)

-- ---- messages force nothing

pub sends_force : (notes : List Message) → marks_by (sends notes) ≡ []
sends_force [] = refl
sends_force (note ∷ notes) = sends_force notes

pub then_sends : (move : Move) (notes : List Message) → move_marks move ++ [] ≡ marks_by (move ∷ sends notes)
then_sends move notes = ap (λ k. move_marks move ++ k) (sym (sends_force notes))

pub drops_force : (b : Bool) (t m : ℕ) (note : Message) → marks_by (drop_moves b t m ++ Send note ∷ []) ≡ []
drops_force true t m note = refl
drops_force false t m note = refl

pub drops_alone : (b : Bool) (t m : ℕ) → marks_by (drop_moves b t m) ≡ []
drops_alone true t m = refl
drops_alone false t m = refl
