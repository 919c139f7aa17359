-- What a plain federation has to be for an event to be done: its nodes are whole, and what they would force can be written.
use Rattle.std.specs.Prelude.{ℕ, false, ◌≡◌, length}
use Rattle.co_plain.specs.Federation.{Federation}
use Rattle.co_plain.specs.Invariants.{Memory, view, stands}
use Rattle.co_plain.specs.declared.member_state.MemberState.{MemberState}
use Rattle.co_law_node.specs.WholeNodes.{AreWhole, AreWritable}

pub record IsReady (s : Federation) : Type 0 where
  pub whole : AreWhole (length s.kinds) s.coordinators s
  pub writable : AreWritable (length s.kinds) s.coordinators s

-- the transaction is neither voted nor committed at the member
abbrev pub IsUnsettled : MemberState → ℕ → Type 0
IsUnsettled x t = stands (view Memory x) t ≡ false
