-- A federation that one more member joins, as traces tell it.
use Rattle.std.specs.Prelude.{ℕ, suc, Bool, false, not, ◌||◌, ◌==◌, ◌≡◌, List, [], ◌∷◌, ◌++◌, length, filter}
use Rattle.co_base.specs.declared.head.Kind.{Kind}
use Rattle.co_base.specs.declared.node.Node.TheVariants as node
use Rattle.co_base.specs.declared.op.Op.{Op}
use Rattle.co_base.specs.declared.reply.Reply.{Reply}
use Rattle.co_base.specs.Nodes.{same_node}
use Rattle.co_plain.specs.Numbers.{TxnNumber, MemberNumber, IsAmong}
use Rattle.co_plain.specs.CommitmentOrder.{Trace, Began, Operated, Committed, decisions_in}
use Rattle.co_law_order.specs.Ordering.{IsOrderedTrace, StandsOnce}
use Rattle.co_law_order.specs.OwnParts.{own_part}

-- whether this is an operation or a commit record of the member
abbrev pub is_of_member : MemberNumber → Trace → Bool
is_of_member n (Began t by) = false
is_of_member n (Operated t m o reply) = m == n
is_of_member n (Committed at t) = same_node at (node.Member n)

abbrev pub items_of_member : MemberNumber → List Trace → List Trace
items_of_member n trace = filter (is_of_member n) trace

abbrev pub without_member : MemberNumber → List Trace → List Trace
without_member n trace = filter (λ x. not (is_of_member n x)) trace

-- whether the transaction was begun at a member, which then decides it alone
abbrev pub is_begun_locally : List Trace → TxnNumber → Bool
is_begun_locally [] t = false
is_begun_locally (Began u (node.Member m) ∷ rest) t = (u == t) || is_begun_locally rest t
is_begun_locally (Began u (node.Coord c) ∷ rest) t = is_begun_locally rest t
is_begun_locally (Operated u m o reply ∷ rest) t = is_begun_locally rest t
is_begun_locally (Committed at u ∷ rest) t = is_begun_locally rest t

-- the number of one member more
abbrev pub next_member : List Kind → MemberNumber
next_member kinds = suc (length kinds)

-- each operation is at one of these members
abbrev pub OperatesWithin : List Kind → List Trace → Type 0
OperatesWithin kinds trace =
    (t m : ℕ) (o : Op) (reply : Reply) (before after : List Trace) → trace ≡ before ++ Operated t m o reply ∷ after → IsAmong m (length kinds)

-- A trace of coordinators' transactions at these members alone, each decided once.
pub record IsGlobal (kinds : List Kind) (trace : List Trace) : Type 0 where
  pub within : OperatesWithin kinds trace
  pub free : items_of_member (next_member kinds) trace ≡ []
  pub once : StandsOnce (decisions_in trace)
  pub begun : (t : ℕ) → is_begun_locally trace t ≡ false

-- More is the trace with the items of one more member laid in: what the others do and what is decided stays as it was, the new
-- member keeps the order by itself, and no local transaction of another member operates there.
pub record IsJoinedBy (kinds : List Kind) (kind : Kind) (trace more : List Trace) : Type 0 where
  pub rest : without_member (next_member kinds) more ≡ trace
  pub decisions : decisions_in more ≡ decisions_in trace
  pub ordered : IsOrderedTrace (kinds ++ kind ∷ []) (own_part (next_member kinds) more)
  pub global : (t : ℕ) (o : Op) (reply : Reply) (before after : List Trace) →
      more ≡ before ++ Operated t (next_member kinds) o reply ∷ after → is_begun_locally more t ≡ false
