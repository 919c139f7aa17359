-- What happens at most once in a run.
use Rattle.std.specs.Prelude.{ℕ, Bool, true, false, ◌&&◌, ◌==◌, ◌≡◌, List, [], ◌∷◌, ◌++◌}
use Rattle.std.specs.List.{list_any}
use Rattle.co_base.specs.declared.mark.MarkKind.{MarkKind}
use Rattle.co_base.specs.declared.mark.MarkKind.TheVariants as kind
use Rattle.co_base.specs.declared.node.Node.{Node}
use Rattle.co_base.specs.Nodes.{same_node}
use Rattle.co_message.specs.declared.item.ItemKind.{ItemKind}
use Rattle.co_message.specs.declared.item.ItemKind.TheVariants as item
use Rattle.co_state.specs.Table.{holds}
use Rattle.co_plain.specs.declared.happening.Happening.{Happening}
use Rattle.co_plain.specs.CommitmentOrder.{Trace, Began, Operated, Committed}
use Rattle.co_plain.specs.Federation.{Federation}
use Rattle.co_plain.specs.Moves.{Move, Cast, Install, CommitLocally, Decide}
use Rattle.co_plain.specs.Numbers.{TxnNumber, MemberNumber}
use Rattle.co_plain.specs.SoundLogs.{has_unended}
use Rattle.co_plain.specs.Step.{step}
use Rattle.co_law_moves.specs.EventMoves.{moves_of}

-- behind one that passes the test, none passes
abbrev pub AtMostOnce : {X : Type 0} → (X → Bool) → List X → Type 0
AtMostOnce test [] = Unit {0}
AtMostOnce test (x ∷ xs) = (test x ≡ true → list_any test xs ≡ false) × AtMostOnce test xs

-- the moves of which a run is made, the first one first
abbrev pub moves_along : List Happening → Federation → List Move
moves_along [] s = []
moves_along (h ∷ hs) s = moves_of s h ++ moves_along hs (step s h).state

-- a move that forces the vote of the transaction at the member; one that forces its commit there; one that decides it anywhere
abbrev pub forces_vote : TxnNumber → MemberNumber → Move → Bool
forces_vote t m (Cast u k c n) = (k == m) && (u == t)
forces_vote t m (CommitLocally u k) = (k == m) && (u == t)
forces_vote t m _ = false

abbrev pub forces_install : TxnNumber → MemberNumber → Move → Bool
forces_install t m (Install u k) = (k == m) && (u == t)
forces_install t m (CommitLocally u k) = (k == m) && (u == t)
forces_install t m _ = false

abbrev pub forces_decision : TxnNumber → Move → Bool
forces_decision t (Decide u c) = u == t
forces_decision t (CommitLocally u k) = u == t
forces_decision t _ = false

pub record AreForcedOnce (moves : List Move) : Type 0 where
  pub votes : (t m : ℕ) → AtMostOnce (forces_vote t m) moves
  pub installs : (t m : ℕ) → AtMostOnce (forces_install t m) moves
  pub decisions : (t : ℕ) → AtMostOnce (forces_decision t) moves

-- that a commit record of the transaction became stable at the node
abbrev pub tells_commit_here : Node → TxnNumber → Trace → Bool
tells_commit_here at t (Began u by) = false
tells_commit_here at t (Operated u m o reply) = false
tells_commit_here at t (Committed by u) = same_node by at && (u == t)

-- that an end record of the transaction became stable, at whatever node
abbrev pub is_end : MarkKind → Bool
is_end kind.End = true
is_end _ = false

abbrev pub tells_end : TxnNumber → ItemKind → Bool
tells_end t (item.Log mark) = is_end mark.kind && (mark.number == t)
tells_end t _ = false

-- The items of a run from this state tell of the end of a transaction at most once, and never of one that the opened logs know and
-- that has no commit without end in them: it ended in an earlier run, or nobody waits for its end.
pub record AreEndedOnce (s : Federation) (items : List ItemKind) : Type 0 where
  pub once : (t : ℕ) → AtMostOnce (tells_end t) items
  pub not_again : (t : ℕ) → holds s.used t ≡ true → ((c : ℕ) → has_unended (s.opened_coord c) t ≡ false) → list_any (tells_end t) items ≡ false
