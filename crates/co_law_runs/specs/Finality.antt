-- What is final: a timer that ended a transaction, and a member that lost one.
use Rattle.std.specs.Prelude.{ℕ, Bool, true, false, ◌&&◌, ◌||◌, ◌==◌, ◌≡◌, ◌≤◌, List, [], ◌∷◌, Option, None, Some}
use Rattle.co_base.specs.declared.node.Node.{Node}
use Rattle.co_base.specs.declared.node.Node.TheVariants as node
use Rattle.co_message.specs.declared.answer.Answer.{Answer}
use Rattle.co_message.specs.declared.event.Event.TheVariants as event
use Rattle.co_message.specs.declared.item.ItemKind.{ItemKind}
use Rattle.co_message.specs.declared.item.ItemKind.TheVariants as item
use Rattle.co_message.specs.declared.message.Message.TheVariants as message
use Rattle.co_state.specs.Table.{holds}
use Rattle.co_plain.specs.declared.happening.Happening.{Happening}
use Rattle.co_plain.specs.declared.happening.Happening.TheVariants as happening
use Rattle.co_plain.specs.CommitmentOrder.{Trace, Began, Operated, Committed, trace_of}
use Rattle.co_plain.specs.Decisions.{told_of}
use Rattle.co_plain.specs.Federation.{Federation}
use Rattle.co_plain.specs.Invariants.{Side, view, stands}
use Rattle.co_plain.specs.Runs.{run}
use Rattle.co_plain.specs.Sessions.{count_at}
use Rattle.co_base.specs.Nodes.{same_node}
use Rattle.co_plain.specs.Step.{step}
use Rattle.co_plain.specs.Premises.{AreTrueVerdicts}
use Rattle.co_law_moves.specs.MoveTraces.{items_along}
use Rattle.co_law_runs.specs.OnlyTimers.{ending_answer, tells_commit}

-- the reply among the items of an event
abbrev pub reply_told : List ItemKind → Option Answer
reply_told [] = None
reply_told (item.Answered a ∷ is) = Some a
reply_told (_ ∷ is) = reply_told is

-- Where the timer of the transaction answers that it ended it, at this node, no commit record of the transaction becomes
-- stable in any continuation.
abbrev pub IsFinal : Federation → ℕ → Node → Type 0
IsFinal s t at =
    reply_told (step s (happening.Line (event.Timer t at))).items ≡ Some (ending_answer at) →
    (hs : List Happening) → AreTrueVerdicts hs (step s (happening.Line (event.Timer t at))).state →
    tells_commit (trace_of (items_along hs (step s (happening.Line (event.Timer t at))).state)) t ≡ false

-- The client was told of operations at a member that has the transaction nowhere: it is not active there, and neither
-- memory nor records have it voted or committed.
pub record IsLostAt (s : Federation) (t m : ℕ) : Type 0 where
  pub told : 1 ≤ count_at (told_of s t) m
  pub idle : holds (s.member m).engine.active t ≡ false
  pub nowhere : (side : Side) → stands (view side (s.member m)) t ≡ false

-- whether items tell that a member votes yes
abbrev pub tells_yes : List ItemKind → ℕ → ℕ → Bool
tells_yes [] t m = false
tells_yes (item.Sent (message.Vote u k c true) ∷ is) t m = ((u == t) && (k == m)) || tells_yes is t m
tells_yes (_ ∷ is) t m = tells_yes is t m

-- whether a trace tells that a commit record of the transaction became stable at a node
abbrev pub tells_commit_at : List Trace → Node → ℕ → Bool
tells_commit_at [] at t = false
tells_commit_at (Began u by ∷ rest) at t = tells_commit_at rest at t
tells_commit_at (Operated u m o reply ∷ rest) at t = tells_commit_at rest at t
tells_commit_at (Committed by u ∷ rest) at t = (same_node by at && (u == t)) || tells_commit_at rest at t

-- In a run from a state in which a member lost the transaction, it stays lost there, and the member neither votes yes on it
-- nor commits it.
pub record StaysLost (s : Federation) (hs : List Happening) (t m : ℕ) : Type 0 where
  pub lost : IsLostAt (run hs s) t m
  pub no_yes : tells_yes (items_along hs s) t m ≡ false
  pub no_commit : tells_commit_at (trace_of (items_along hs s)) (node.Member m) t ≡ false
