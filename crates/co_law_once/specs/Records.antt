-- Which forced records of a transaction the items of a run tell of, and how many.
use Rattle.std.specs.Prelude.{ℕ, Bool, true, false, ◌&&◌, ◌==◌, ◌≡◌, ◌≤◌, List}
use Rattle.std.specs.List.{list_any, count_by}
use Rattle.co_base.specs.declared.mark.Mark.{Mark}
use Rattle.co_base.specs.declared.mark.MarkKind.{MarkKind}
use Rattle.co_base.specs.declared.mark.MarkKind.TheVariants as kind
use Rattle.co_base.specs.declared.node.Node.{Node}
use Rattle.co_base.specs.declared.node.Node.TheVariants as node
use Rattle.co_base.specs.Nodes.{same_node}
use Rattle.co_message.specs.declared.item.ItemKind.{ItemKind}
use Rattle.co_message.specs.declared.item.ItemKind.TheVariants as item
use Rattle.co_state.specs.Table.{holds}
use Rattle.co_plain.specs.Federation.{Federation}
use Rattle.co_plain.specs.Numbers.{TxnNumber, MemberNumber}
use Rattle.co_law_moves.specs.MoveTraces.{messages_in}
use Rattle.co_law_once.specs.Costs.{AreFour}
use Rattle.co_law_once.specs.Once.{AtMostOnce}

-- that a record became stable that passes the test
abbrev pub tells_of : (Mark → Bool) → ItemKind → Bool
tells_of test (item.Log mark) = test mark
tells_of test _ = false

abbrev pub is_prepare_record : MarkKind → Bool
is_prepare_record kind.Prepare = true
is_prepare_record _ = false

-- A prepare and a commit are forced. An abort and an end wait in memory for the next forced write, and headers and checkpoints are of
-- no transaction.
abbrev pub is_forced_record : MarkKind → Bool
is_forced_record kind.Prepare = true
is_forced_record kind.Commit = true
is_forced_record _ = false

abbrev pub is_coordinator : Node → Bool
is_coordinator (node.Coord c) = true
is_coordinator (node.Member m) = false

-- the prepare record of the transaction at the member
abbrev pub prepare_at : MemberNumber → TxnNumber → Mark → Bool
prepare_at m t mark = is_prepare_record mark.kind && (same_node mark.node (node.Member m) && (mark.number == t))

-- its forced records there, and at the coordinators together
abbrev pub forced_at_member : MemberNumber → TxnNumber → Mark → Bool
forced_at_member m t mark = is_forced_record mark.kind && (same_node mark.node (node.Member m) && (mark.number == t))

abbrev pub forced_at_coordinators : TxnNumber → Mark → Bool
forced_at_coordinators t mark = is_forced_record mark.kind && (is_coordinator mark.node && (mark.number == t))

-- The items of a run from this state tell of the prepare of a transaction at most once at each member, and never of one that the
-- opened logs know: it voted in an earlier run.
pub record ArePreparedOnce (s : Federation) (items : List ItemKind) : Type 0 where
  pub once : (t m : ℕ) → AtMostOnce (tells_of (prepare_at m t)) items
  pub not_again : (t m : ℕ) → holds s.used t ≡ true → list_any (tells_of (prepare_at m t)) items ≡ false

-- Of a transaction two forced records at most at the member, its prepare and its commit, and one at the coordinators together.
pub record AreForcedFew (t : TxnNumber) (m : MemberNumber) (items : List ItemKind) : Type 0 where
  pub member : count_by (tells_of (forced_at_member m t)) items ≤ 2
  pub coordinators : count_by (tells_of (forced_at_coordinators t)) items ≤ 1

-- What two-phase commit with presumed abort pays for a commit: these records, and at most four messages between the transaction and
-- the member.
pub record CostsAsPresumedAbort (t : TxnNumber) (m : MemberNumber) (items : List ItemKind) : Type 0 where
  pub messages : AreFour t m (messages_in items)
  pub writes : AreForcedFew t m items
