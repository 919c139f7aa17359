-- A federation of whole nodes, in which who may still act has neither voted nor been installed anywhere, and each prepare that was sent names a
-- coordinator of the federation and is about some operations.
use Rattle.std.specs.Prelude.{ℕ, true, false, ◌≡◌, ◌≤◌, Some}
use Rattle.co_base.specs.Limits.{most_operations}
use Rattle.co_message.specs.declared.message.Message.TheVariants as message
use Rattle.co_state.specs.Table.{look}
use Rattle.co_plain.specs.declared.session.Session.{Session}
use Rattle.co_plain.specs.Sessions.{Grants, leave_to_visit, leave_to_end, count_at}
use Rattle.co_plain.specs.Decisions.{told_of}
use Rattle.co_plain.specs.Federation.{Federation}
use Rattle.co_plain.specs.Premises.{IsOwnSession}
use Rattle.co_plain.specs.Wire.{was_sent}
use Rattle.co_plain.specs.Invariants.{Memory, view, stands}
use Rattle.co_law_node.specs.WholeMembers.{IsWholeMember}
use Rattle.co_plain.specs.Numbers.{IsAmong}
use Rattle.co_law_node.specs.WholeCoords.{IsWholeCoord}
use Rattle.co_law_node.specs.Writable.{IsWritableMember, IsWritableCoord}

pub record AreWhole (members coords : ℕ) (s : Federation) : Type 0 where
  pub member : (m : ℕ) → IsWholeMember coords (s.member m)
  pub coord : (c : ℕ) → IsWholeCoord members (s.coord c)
  -- an operation, and what a client may still end, is of a transaction that stands at no member
  pub visited : (t m : ℕ) (session : Session) → leave_to_visit (look s.sessions t) m ≡ Grants session → stands (view Memory (s.member m)) t ≡ false
  pub ended : (t m : ℕ) (session : Session) → leave_to_end (look s.sessions t) ≡ Grants session → stands (view Memory (s.member m)) t ≡ false
  -- a client was told of a bounded number of operations at a member
  pub few : (t m : ℕ) → count_at (told_of s t) m ≤ most_operations
  -- its sessions are of own nodes
  pub sessions : (t : ℕ) (session : Session) → look s.sessions t ≡ Some session → IsOwnSession members coords session
  pub prepares : (t c m count : ℕ) → was_sent s.sent (message.Prepare t c m count) ≡ true → IsAmong c coords × (1 ≤ count)

-- A federation whose nodes hold what can be written, and write what can be written next.
pub record AreWritable (members coords : ℕ) (s : Federation) : Type 0 where
  pub member : (m : ℕ) → IsAmong m members → IsWritableMember coords m (s.member m)
  pub coord : (c : ℕ) → IsAmong c coords → IsWritableCoord c (s.coord c)
