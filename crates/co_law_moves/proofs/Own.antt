-- What each node keeps by itself, in the form in which a move keeps it. Each fact speaks of the parts that it needs.
use Rattle.std.proofs.Common.{◌≡◌, ℕ, Bool, true, false, ◌||◌, ◌≤◌, List, ◌++◌, length, Some}
use Rattle.co_base.specs.declared.node.Node.TheVariants as node
use Rattle.co_message.specs.declared.message.Message.{Message}
use Rattle.co_message.specs.declared.message.Message.TheVariants as message
use Rattle.co_record.specs.declared.record.Record.{Record}
use Rattle.co_state.specs.declared.engine_state.Operation.{Operation}
use Rattle.co_state.specs.Table.{Table, look, holds}
use Rattle.co_plain.specs.declared.member_state.AskedMark.{AskedMark}
use Rattle.co_plain.specs.declared.member_state.MemberState.{MemberState}
use Rattle.co_plain.specs.declared.member_view.MemberView.{MemberView}
use Rattle.co_plain.specs.declared.session.Decided.{Decided}
use Rattle.co_plain.specs.declared.session.Session.{Session}
use Rattle.co_plain.specs.declared.session.Told.{Told}
use Rattle.co_plain.specs.MemberView.{Numbers, recovered_view}
use Rattle.co_plain.specs.CoordView.{has_commit_of}
use Rattle.co_plain.specs.Sessions.{told_at, count_at}
use Rattle.co_plain.specs.Wire.{was_sent}
use Rattle.co_plain.specs.Federation.{Federation}
use Rattle.co_plain.specs.Decisions.{is_decided, told_in, asked_in}
use Rattle.co_plain.specs.Promises.{AreDecidedOnce}
use Rattle.co_plain.specs.Invariants.{Side, Memory, view, stands, VotedAreConflictFree, KeptAsTold, txn_of, StampsIn, OwnAborts}
use Rattle.co_law_base.proofs.Facts.{rest_of, by_coord, CoordHas}
use Rattle.co_plain.specs.CoordInvariants.{OwnEnds}

-- asked to end, or in an opened log
abbrev pub spent : Table Session → Numbers → ℕ → Bool
spent sessions used t = asked_in (look sessions t) || holds used t

abbrev pub told_there : Table Session → ℕ → ℕ → List Told
told_there sessions m t = told_at (told_in (look sessions t)) m

-- begun at some coordinator
abbrev pub AtCoord : Table Session → ℕ → Type 0
AtCoord sessions t = (c : ℕ) × (by_coord (look sessions t) c ≡ true)

pub record OwnView (sessions : Table Session) (used : Numbers) (v : MemberView) : Type 0 where
  pub free : VotedAreConflictFree v
  pub over : (t : ℕ) → stands v t ≡ true → spent sessions used t ≡ true
  pub apart : (t : ℕ) → holds v.committed t ≡ true → holds v.voted t ≡ false
  -- who is voted and was begun in this run, was begun at a coordinator
  pub away : (t : ℕ) → holds v.voted t ≡ true → holds sessions t ≡ true → AtCoord sessions t

pub record OwnActive (sessions : Table Session) (m : ℕ) (x : MemberState) (t : ℕ) (os : List Operation) : Type 0 where
  pub kept : KeptAsTold x.engine os (told_there sessions m t)
  pub stamps : StampsIn (length x.engine.installed) os
  pub begun : holds sessions t ≡ true
  pub apart : stands (view Memory x) t ≡ false

pub record OwnMember (sessions : Table Session) (used : Numbers) (sent : List Message) (m : ℕ) (x : MemberState) : Type 0 where
  pub views : (side : Side) → OwnView sessions used (view side x)
  pub active : (t : ℕ) (os : List Operation) → look x.engine.active t ≡ Some os → OwnActive sessions m x t os
  pub marked : (t : ℕ) (mark : AskedMark) → look x.asked t ≡ Some mark →
      (holds x.engine.active t ≡ true) × (was_sent sent (message.Prepare t mark.coord m mark.count) ≡ true)
  pub logged : recovered_view (x.log.waiting ++ x.log.stable) ≡ view Memory x
  pub waiting : OwnAborts x.log.stable x.log.waiting

pub record OwnNumbers (sessions : Table Session) (used : Numbers) (decided : List Decided) (opened : ℕ → List Record) : Type 0 where
  pub new : (t : ℕ) → holds sessions t ≡ true → holds used t ≡ false
  pub decided_begun : (t : ℕ) → is_decided decided t ≡ true → holds sessions t ≡ true
  pub once : AreDecidedOnce decided
  pub local_asked : (t m : ℕ) (session : Session) → look sessions t ≡ Some session → session.by ≡ node.Member m → is_decided decided t ≡ true → session.asked ≡ true
  pub commit_used : (c t : ℕ) → has_commit_of (opened c) t ≡ true → holds used t ≡ true

-- what is said of the messages: what they name is spent, and a prepare has its transaction's coordinator and count
pub record OwnSent (sessions : Table Session) (used : Numbers) (sent : List Message) : Type 0 where
  pub over : (note : Message) → was_sent sent note ≡ true → spent sessions used (txn_of note) ≡ true
  pub prepares : (t c m n : ℕ) → was_sent sent (message.Prepare t c m n) ≡ true →
      (by_coord (look sessions t) c ≡ true) × (n ≡ count_at (told_in (look sessions t)) m) × (1 ≤ n)

pub record OwnFacts (s : Federation) : Type 0 where
  pub numbers : OwnNumbers s.sessions s.used s.decided s.opened_coord
  pub members : (m : ℕ) → OwnMember s.sessions s.used s.sent m (s.member m)
  pub coords : (c : ℕ) → CoordHas (rest_of s) c (s.coord c)
  pub ends : (c : ℕ) → OwnEnds (s.coord c).table (s.coord c).log.stable (s.coord c).log.waiting
  pub sent : OwnSent s.sessions s.used s.sent
