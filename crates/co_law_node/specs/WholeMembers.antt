-- What a member is by itself, whatever its clients do and whatever logs it was opened over, as long as their grammar
-- allows them: so a restart finds a log that is allowed, and what is forced is allowed where it stands.
use Rattle.std.specs.Prelude.{ℕ, Bool, true, false, ◌==◌, ◌||◌, ◌≡◌, ◌≢◌, ◌≤◌, List, [], ◌∷◌, ◌++◌, length, reverse, None, Some}
use Rattle.co_base.specs.declared.leaves.Leaves.{Leaves}
use Rattle.co_base.specs.declared.op.Op.{Op}
use Rattle.co_base.specs.Limits.{most_operations}
use Rattle.co_record.specs.declared.record.Record.{Record}
use Rattle.co_record.specs.declared.record.Record.TheVariants as log
use Rattle.co_state.specs.declared.engine_state.Install.{Install}
use Rattle.co_state.specs.declared.engine_state.Operation.{Operation}
use Rattle.co_state.specs.declared.engine_state.Vote.{Vote}
use Rattle.co_state.specs.Table.{look, holds}
use Rattle.co_plain.specs.declared.member_state.AskedMark.{AskedMark}
use Rattle.co_plain.specs.declared.member_state.MemberState.{MemberState}
use Rattle.co_plain.specs.Numbers.{IsAmong}
use Rattle.co_plain.specs.MemberView.{recovered_view, first_refused_at_member}
use Rattle.co_plain.specs.LogWrite.{with_stop}
use Rattle.co_plain.specs.MemberStep.{member_down, with_log}
use Rattle.co_plain.specs.Member.{member_op, member_prepare, member_decide, member_vote, member_timer, member_ask}
use Rattle.co_plain.specs.MemberLog.{member_checkpoint, member_crash, member_restart, member_arm}
use Rattle.co_plain.specs.LocalCommit.{member_local_commit, member_local_abort}
use Rattle.co_plain.specs.Invariants.{Side, Memory, Stable, view, stands, VotedAreConflictFree}

-- what a side of a member rests on, newest first: its stable records, and in memory the waiting ones too
abbrev pub records_of : Side → MemberState → List Record
records_of Memory x = x.log.waiting ++ x.log.stable
records_of Stable x = x.log.stable

-- aborts alone wait
abbrev pub AbortsAlone : List Record → Type 0
AbortsAlone [] = Unit {0}
AbortsAlone (log.Abort t ∷ rs) = AbortsAlone rs
AbortsAlone (_ ∷ rs) = ⊥

-- whether the transaction is among the installs
abbrev pub was_installed : List Install → ℕ → Bool
was_installed [] t = false
was_installed (i ∷ is) t = (i.txn == t) || was_installed is t

pub record IsWholeMember (coords : ℕ) (x : MemberState) : Type 0 where
  -- on both sides votes neither conflict nor are committed, and name coordinators of the federation
  pub conflict_free : (side : Side) → VotedAreConflictFree (view side x)
  pub apart : (side : Side) (t : ℕ) → holds (view side x).committed t ≡ true → holds (view side x).voted t ≡ false
  pub voted : (side : Side) (t : ℕ) (vote : Vote) → look (view side x).voted t ≡ Some vote → IsAmong vote.coord coords
  -- who is active is neither voted nor committed, and has a bounded number of operations, but some
  pub active : (t : ℕ) (os : List Operation) → look x.engine.active t ≡ Some os →
      (stands (view Memory x) t ≡ false) × (1 ≤ length os) × (length os ≤ most_operations)
  -- who was installed is committed
  pub installed : (t : ℕ) → was_installed x.engine.installed t ≡ true → holds x.committed t ≡ true
  -- who is marked is active, and was asked by a coordinator of the federation about some operations
  pub marked : (t : ℕ) (mark : AskedMark) → look x.asked t ≡ Some mark →
      (holds x.engine.active t ≡ true) × IsAmong mark.coord coords × (1 ≤ mark.count)
  -- the records with the waiting ones tell what memory has
  pub logged : recovered_view (records_of Memory x) ≡ view Memory x
  pub waiting : AbortsAlone x.log.waiting
  -- each record is allowed where it stands, and the first one is there
  pub readable : (side : Side) → first_refused_at_member coords (reverse (records_of side x)) ≡ None
  pub headed : x.log.stable ≢ []
  -- a member that is down is what its records tell
  pub down : x.up ≡ false → x ≡ member_down x x.log

-- What every event of a member leaves it with, with the conditions of the call as premises.
pub record MemberStays (Keeps : MemberState → Type 0) (coords m : ℕ) (x : MemberState) : Type 0 where
  -- an operation, a local commit and a local abort are of a transaction that is neither voted nor committed
  pub operation : (t carried : ℕ) (op : Op) → x.up ≡ true → stands (view Memory x) t ≡ false → Keeps (member_op x t carried op).state
  pub local_commit : (t carried : ℕ) → 1 ≤ coords → x.up ≡ true → stands (view Memory x) t ≡ false → Keeps (member_local_commit m x t carried).state
  pub local_abort : (t : ℕ) → x.up ≡ true → Keeps (member_local_abort x t).state
  -- a prepare comes from a coordinator of the federation, about some operations
  pub prepare : (t coord count : ℕ) → IsAmong coord coords → 1 ≤ count → x.up ≡ true → Keeps (member_prepare m x t coord count).state
  pub decision : (t coord : ℕ) (commit : Bool) → x.up ≡ true → Keeps (member_decide m x t coord commit).state
  pub vote : (t : ℕ) → x.up ≡ true → Keeps (member_vote m x t).state
  pub timer : (t : ℕ) → x.up ≡ true → Keeps (member_timer x t).state
  pub question : (t : ℕ) → Keeps (member_ask m x t).state
  pub checkpoint : x.up ≡ true → Keeps (member_checkpoint m x).state
  pub crash : Keeps (member_crash x).state
  pub restart : Keeps (member_restart x).state
  pub armed : (call : ℕ) (leaves : Leaves) → x.up ≡ true → Keeps (member_arm x call leaves).state
  pub disarmed : Keeps (with_log x (with_stop x.log None))

-- each event of a member leaves it whole
abbrev pub MemberStaysWhole : ℕ → ℕ → MemberState → Type 0
MemberStaysWhole coords m x = MemberStays (IsWholeMember coords) coords m x
