-- Commitment ordering (Raz, VLDB 1992), as a test on the items of a transcript alone: where an operation of one
-- committed transaction stands before a conflicting one of another, it is decided first.
use Rattle.std.specs.Prelude.{ℕ, Bool, true, false, ◌&&◌, ◌||◌, ◌==◌, ◌≡◌, ◌≢◌, List, [], ◌∷◌, ◌++◌, if◌then◌else◌, Option, None, Some}
use Rattle.co_base.specs.declared.head.Kind.{Kind}
use Rattle.co_base.specs.declared.head.Kind.TheVariants.{Lock, Occ, Mv}
use Rattle.co_base.specs.declared.mark.MarkKind.{MarkKind}
use Rattle.co_base.specs.declared.mark.MarkKind.TheVariants as kind
use Rattle.co_base.specs.declared.node.Node.{Node}
use Rattle.co_base.specs.declared.node.Node.TheVariants as node
use Rattle.co_base.specs.declared.op.Op.{Op}
use Rattle.co_base.specs.declared.op.Op.TheVariants as op
use Rattle.co_base.specs.Span.{Span, span_has}
use Rattle.co_base.specs.declared.reply.Reply.{Reply}
use Rattle.co_base.specs.declared.written.Written.{Written}
use Rattle.co_message.specs.declared.answer.Answer.{Answer}
use Rattle.co_message.specs.declared.answer.Answer.TheVariants as answer
use Rattle.co_message.specs.declared.event.Event.{Event}
use Rattle.co_message.specs.declared.event.Event.TheVariants as event
use Rattle.co_message.specs.declared.item.ItemKind.{ItemKind}
use Rattle.co_message.specs.declared.item.ItemKind.TheVariants as item
use Rattle.co_state.specs.Changes.{span_read, change_made}
use Rattle.co_state.specs.Keys.{same_key}
use Rattle.co_state.specs.Table.{Table, no_entries, look, put}
use Rattle.co_plain.specs.Numbers.{TxnNumber, MemberNumber, has_number}
use Rattle.co_plain.specs.Opening.{kind_of}
use Rattle.co_base.specs.Nodes.{same_node}

-- what the items tell of conflicts
pub data Trace : Type 0 where
  -- a transaction was begun, and this node decides it
  Began : TxnNumber → Node → Trace
  -- an operation was answered at a member, with this reply
  Operated : TxnNumber → MemberNumber → Op → Reply → Trace
  -- a commit record became stable at a node
  Committed : Node → TxnNumber → Trace

abbrev pub traced_commit : MarkKind → Node → TxnNumber → List Trace
traced_commit kind.Commit at t = Committed at t ∷ []
traced_commit _ at t = []

abbrev pub operation_in : Event → Option (ℕ × ℕ × Op)
operation_in (event.Read t m key) = Some (t, m, op.Read key)
operation_in (event.Write t m key value) = Some (t, m, op.Write key value)
operation_in (event.Erase t m key) = Some (t, m, op.Erase key)
operation_in (event.Scan t m span) = Some (t, m, op.Scan span)
operation_in _ = None

abbrev pub operated_by : Option (ℕ × ℕ × Op) → Reply → List Trace
operated_by None reply = []
operated_by (Some o) reply = Operated o.0 o.1 o.2 reply ∷ []

abbrev pub begun_in : Event → List Trace
begun_in (event.Begin t c) = Began t (node.Coord c) ∷ []
begun_in (event.Local t m) = Began t (node.Member m) ∷ []
begun_in _ = []

-- an event whose answer follows it at once
abbrev pub traced_answer : Event → Answer → List Trace
traced_answer e (answer.Replied reply) = operated_by (operation_in e) reply
traced_answer e answer.Begun = begun_in e
traced_answer e _ = []

abbrev pub trace_from : Option Event → List ItemKind → List Trace
trace_from last [] = []
trace_from last (item.Head head ∷ items) = trace_from None items
trace_from last (item.Event e ∷ items) = trace_from (Some e) items
trace_from last (item.Log mark ∷ items) = traced_commit mark.kind mark.node mark.number ++ trace_from last items
trace_from last (item.Sent message ∷ items) = trace_from last items
trace_from None (item.Answered a ∷ items) = trace_from None items
trace_from (Some e) (item.Answered a ∷ items) = traced_answer e a ++ trace_from None items

abbrev pub trace_of : List ItemKind → List Trace
trace_of items = trace_from None items

-- whether this node, if any, is that one
abbrev pub decides_at : Option Node → Node → Bool
decides_at None at = false
decides_at (Some by) at = same_node by at

-- The transactions in the order in which they were decided: each commit record at the node where its transaction was begun
-- before. The table has who was begun where so far.
abbrev pub decisions_from : Table Node → List Trace → List ℕ
decisions_from homes [] = []
decisions_from homes (Began t by ∷ rest) = decisions_from (put homes t by) rest
decisions_from homes (Operated t m o reply ∷ rest) = decisions_from homes rest
decisions_from homes (Committed at t ∷ rest) = if decides_at (look homes t) at then t ∷ decisions_from homes rest else decisions_from homes rest

abbrev pub decisions_in : List Trace → List ℕ
decisions_in trace = decisions_from no_entries trace

-- whether the member installed the transaction in this part of the trace
abbrev pub installs : List Trace → MemberNumber → TxnNumber → Bool
installs [] m t = false
installs (Began u by ∷ rest) m t = installs rest m t
installs (Operated u n o reply ∷ rest) m t = installs rest m t
installs (Committed at u ∷ rest) m t = same_node at (node.Member m) && (u == t) || installs rest m t

-- the part before the transaction's first operation at the member
abbrev pub before_first : List Trace → MemberNumber → TxnNumber → List Trace
before_first [] m t = []
before_first (Began u by ∷ rest) m t = Began u by ∷ before_first rest m t
before_first (Committed at u ∷ rest) m t = Committed at u ∷ before_first rest m t
before_first (Operated u n o reply ∷ rest) m t = if (u == t) && (n == m) then [] else Operated u n o reply ∷ before_first rest m t

-- the part that an operation behind it sees
abbrev pub part_seen : Kind → List Trace → MemberNumber → TxnNumber → List Trace
part_seen Lock before m t = before
part_seen Occ before m t = before
part_seen Mv before m t = before_first before m t

-- whether an operation of the transaction behind this part of the trace sees the install of another one
abbrev pub sees : List Kind → List Trace → TxnNumber → MemberNumber → TxnNumber → Bool
sees kinds before t m other = installs (part_seen (kind_of kinds m) before m t) m other

-- an operation of a transaction at a member, answered before its decision, and the trace before it
pub record OperatedIn (trace : List Trace) (t m : ℕ) (o : Op) (before : List Trace) : Type 0 where
  pub reply : Reply
  pub rest : List Trace
  pub place : trace ≡ before ++ Operated t m o reply ∷ rest
  pub undecided : has_number (decisions_in before) t ≡ false

-- a read of the key
pub record ReadsKey (trace : List Trace) (t m : ℕ) (key : List ℕ) : Type 0 where
  pub o : Op
  pub before : List Trace
  pub operated : OperatedIn trace t m o before
  pub span : Span
  pub reads : span_read o ≡ Some span
  pub has : span_has span key ≡ true

-- a write of the key
pub record WritesKey (trace : List Trace) (t m : ℕ) (key : List ℕ) : Type 0 where
  pub o : Op
  pub before : List Trace
  pub operated : OperatedIn trace t m o before
  pub change : Written
  pub writes : change_made o ≡ Some change
  pub same : same_key change.key key ≡ true

-- the first one's install stands before the second one's, or is the only one
pub data InstalledFirst (trace : List Trace) (m t u : ℕ) : Type 0 where
  Before : (before rest : List Trace) → trace ≡ before ++ rest → installs before m t ≡ true → installs before m u ≡ false → InstalledFirst trace m t u

-- t precedes u at a member: u read a key that t wrote, and saw t's install; t read a key that u wrote, and did not see u's install;
-- or both wrote one key, and t's install stands first
pub data Precedes (kinds : List Kind) (trace : List Trace) (t u m : ℕ) : Type 0 where
  ReadAfter : (key : List ℕ) → WritesKey trace t m key → (read : ReadsKey trace u m key) → sees kinds read.before u m t ≡ true → Precedes kinds trace t u m
  ReadBefore : (key : List ℕ) → (read : ReadsKey trace t m key) → sees kinds read.before t m u ≡ false → WritesKey trace u m key → Precedes kinds trace t u m
  WroteBefore : (key : List ℕ) → WritesKey trace t m key → WritesKey trace u m key → InstalledFirst trace m t u → Precedes kinds trace t u m

-- t stands before u in the list
pub data StandsBefore (order : List ℕ) (t u : ℕ) : Type 0 where
  Stands : (before rest : List ℕ) → order ≡ before ++ u ∷ rest → has_number before t ≡ true → StandsBefore order t u

-- the decisions that items tell, in order
abbrev pub told_decisions : List ItemKind → List ℕ
told_decisions items = decisions_in (trace_of items)

abbrev pub IsCommitmentOrdered : List Kind → List ItemKind → Type 0
IsCommitmentOrdered kinds items =
    (t u m : ℕ) → t ≢ u → has_number (told_decisions items) t ≡ true → has_number (told_decisions items) u ≡ true →
    Precedes kinds (trace_of items) t u m → StandsBefore (told_decisions items) t u
