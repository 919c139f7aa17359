-- What is said of quiet states: a timer ends an open transaction for good.
use Rattle.std.specs.Prelude.{ℕ, Bool, true, false, ◌||◌, ◌==◌, ◌≡◌, List, [], ◌∷◌}
use Rattle.co_base.specs.declared.node.Node.{Node}
use Rattle.co_base.specs.declared.node.Node.TheVariants as node
use Rattle.co_message.specs.declared.answer.Answer.{Answer}
use Rattle.co_message.specs.declared.answer.Answer.TheVariants as answer
use Rattle.co_message.specs.declared.answer.Cause.TheVariants as cause
use Rattle.co_message.specs.declared.event.Event.TheVariants as event
use Rattle.co_message.specs.declared.item.ItemKind.TheVariants as item
use Rattle.co_plain.specs.declared.happening.Happening.{Happening}
use Rattle.co_plain.specs.declared.happening.Happening.TheVariants as happening
use Rattle.co_plain.specs.Federation.{Federation}
use Rattle.co_plain.specs.Step.{step}
use Rattle.co_plain.specs.CommitmentOrder.{Trace, Began, Operated, Committed, trace_of}
use Rattle.co_plain.specs.Quiet.{IsNode}
use Rattle.co_plain.specs.Settling.{timer_ends}
use Rattle.co_plain.specs.Premises.{AreTrueVerdicts}
use Rattle.co_law_moves.specs.MoveTraces.{items_along}

-- whether a commit record of the transaction becomes stable in a trace
abbrev pub tells_commit : List Trace → ℕ → Bool
tells_commit [] t = false
tells_commit (Began u by ∷ rest) t = tells_commit rest t
tells_commit (Operated u m o reply ∷ rest) t = tells_commit rest t
tells_commit (Committed at u ∷ rest) t = (u == t) || tells_commit rest t

-- what the timer answers that ends it
abbrev pub ending_answer : Node → Answer
ending_answer (node.Member m) = answer.Dropped
ending_answer (node.Coord c) = answer.Aborted cause.Timer

-- The timer of the transaction at this node ends it: it answers so, and in no continuation a commit record of the
-- transaction becomes stable.
pub record EndsForGood (s : Federation) (t : ℕ) (at : Node) : Type 0 where
  pub is_node : IsNode s at
  pub ends : timer_ends s t at ≡ true
  pub answers : (step s (happening.Line (event.Timer t at))).items ≡ item.Answered (ending_answer at) ∷ []
  pub never : (hs : List Happening) → AreTrueVerdicts hs (step s (happening.Line (event.Timer t at))).state →
      tells_commit (trace_of (items_along hs (step s (happening.Line (event.Timer t at))).state)) t ≡ false

-- some timer does so
pub record SomeTimerEnds (s : Federation) : Type 0 where
  pub txn : ℕ
  pub at : Node
  pub for_good : EndsForGood s txn at
