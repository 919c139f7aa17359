-- The part that a member plays which joins: it runs one transaction after the other.
use Rattle.std.specs.Prelude.{◌≡◌, List, [], ◌∷◌, None}
use Rattle.co_base.specs.declared.head.Kind.{Kind}
use Rattle.co_base.specs.declared.node.Node.TheVariants as node
use Rattle.co_base.specs.declared.op.Op.TheVariants as op
use Rattle.co_base.specs.declared.reply.Reply.TheVariants as reply
use Rattle.co_plain.specs.CommitmentOrder.{Operated, Committed}
use Rattle.co_plain.specs.Moves.{Move, GuardsHold}
use Rattle.co_law_minimal.specs.Minimal.{fresh}
use Rattle.co_law_moves.specs.MoveTraces.{moves_trace}
use Rattle.co_law_order.specs.Joining.{items_of_member}

-- Transaction 2 reads a record and is installed; then 1 writes that record and is installed.
pub record PlaysThePart (kind : Kind) : Type 0 where
  pub moves : List Move
  pub guarded : GuardsHold moves (fresh (kind ∷ []))
  pub tells : items_of_member 1 (moves_trace moves (fresh (kind ∷ []))) ≡
      Operated 2 1 (op.Read (120 ∷ [])) (reply.Got None) ∷ Committed (node.Member 1) 2
      ∷ Operated 1 1 (op.Write (120 ∷ []) (49 ∷ [])) reply.Done ∷ Committed (node.Member 1) 1 ∷ []
