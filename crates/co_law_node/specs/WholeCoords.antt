-- What a coordinator is by itself, whatever its clients and the members do and whatever log it was opened over, as long as
-- its grammar allows it: its table and its records agree, and a restart finds a log that is allowed.
use Rattle.std.specs.Prelude.{ℕ, Bool, true, false, ◌≡◌, ◌≢◌, List, [], ◌∷◌, ◌++◌, reverse, None, Some}
use Rattle.co_base.specs.declared.leaves.Leaves.{Leaves}
use Rattle.co_base.specs.declared.part.Part.{Part}
use Rattle.co_record.specs.declared.record.Record.{Record}
use Rattle.co_record.specs.declared.record.Record.TheVariants as log
use Rattle.co_state.specs.Table.{look}
use Rattle.co_plain.specs.declared.coord_state.CoordState.{CoordState}
use Rattle.co_plain.specs.declared.coord_state.Entry.{Entry}
use Rattle.co_plain.specs.declared.coord_state.Entry.TheVariants as entry
use Rattle.co_plain.specs.LogWrite.{with_stop}
use Rattle.co_plain.specs.CoordView.{has_commit_of, all_up_to, first_refused_at_coord}
use Rattle.co_plain.specs.CoordStep.{members_of, with_coord_log, coord_down}
use Rattle.co_plain.specs.Coordinator.{coord_begin, coord_commit, coord_abort, coord_vote, coord_ask, coord_ack, coord_timer, coord_resend}
use Rattle.co_plain.specs.CoordLog.{coord_checkpoint, coord_crash, coord_restart, coord_arm}
use Rattle.co_plain.specs.SoundLogs.{unended_in}
use Rattle.co_plain.specs.Invariants.{Side, Memory, Stable}

-- what a side of a coordinator rests on, newest first: its stable records, and in memory the waiting ones too
abbrev pub commits_of : Side → CoordState → List Record
commits_of Memory y = y.log.waiting ++ y.log.stable
commits_of Stable y = y.log.stable

-- ends alone wait
abbrev pub EndsAlone : List Record → Type 0
EndsAlone [] = Unit {0}
EndsAlone (log.End t ∷ rs) = EndsAlone rs
EndsAlone (_ ∷ rs) = ⊥

-- Participants of a federation with so many members: there are some, and each is a member.
abbrev pub AreParticipants : ℕ → List Part → Type 0
AreParticipants members parts = (parts ≢ []) × (all_up_to members (members_of parts) ≡ true)

-- An entry beside the records: who is not decided has no commit, and who is committed has one without end.
abbrev pub FitsRecords : ℕ → List Record → ℕ → Entry → Type 0
FitsRecords members rs t entry.Idle = has_commit_of rs t ≡ false
FitsRecords members rs t (entry.Collecting parts yeses) = (has_commit_of rs t ≡ false) × AreParticipants members parts
FitsRecords members rs t (entry.Committed ms acks) = unended_in rs t ≡ Some ms

-- every entry of the table is committed
abbrev pub HasCommitsAlone : CoordState → Type 0
HasCommitsAlone y = (t : ℕ) (e : Entry) → look y.table t ≡ Some e → (members : List ℕ) × (acks : List ℕ) × (e ≡ entry.Committed members acks)

pub record IsWholeCoord (members : ℕ) (y : CoordState) : Type 0 where
  pub fits : (t : ℕ) (e : Entry) → look y.table t ≡ Some e → FitsRecords members (commits_of Memory y) t e
  -- each commit without end is in the table
  pub tabled : (t : ℕ) (ms : List ℕ) → unended_in (commits_of Memory y) t ≡ Some ms → (acks : List ℕ) × (look y.table t ≡ Some (entry.Committed ms acks))
  pub waiting : EndsAlone y.log.waiting
  -- each record is allowed where it stands, and the first one is there
  pub readable : (side : Side) → first_refused_at_coord members (reverse (commits_of side y)) ≡ None
  pub headed : y.log.stable ≢ []
  -- a coordinator that is down is what its records tell: it has no undecided transaction
  pub down : y.up ≡ false → y ≡ coord_down y.log

-- What every event of a coordinator leaves it with, with the conditions of the call as premises: a commit asks for
-- participants that it may name.
pub record CoordStays (Keeps : CoordState → Type 0) (MayName : List Part → Type 0) (c : ℕ) (y : CoordState) : Type 0 where
  -- a number is begun that has no commit
  pub begin : (t : ℕ) → y.up ≡ true → has_commit_of (commits_of Memory y) t ≡ false → Keeps (coord_begin y t).state
  pub commit : (t : ℕ) (parts : List Part) → y.up ≡ true → MayName parts → Keeps (coord_commit c y t parts).state
  pub abort : (t : ℕ) (parts : List Part) → y.up ≡ true → Keeps (coord_abort c y t parts).state
  pub vote : (t m : ℕ) (granted : Bool) → y.up ≡ true → Keeps (coord_vote c y t m granted).state
  pub question : (t m : ℕ) → Keeps (coord_ask c y t m).state
  pub acknowledgement : (t m : ℕ) → y.up ≡ true → Keeps (coord_ack y t m).state
  pub timer : (t : ℕ) → y.up ≡ true → Keeps (coord_timer c y t).state
  pub resending : (t : ℕ) → Keeps (coord_resend c y t).state
  pub checkpoint : y.up ≡ true → Keeps (coord_checkpoint c y).state
  pub crash : Keeps (coord_crash y).state
  pub restart : Keeps (coord_restart y).state
  pub armed : (call : ℕ) (leaves : Leaves) → y.up ≡ true → Keeps (coord_arm y call leaves).state
  pub disarmed : Keeps (with_coord_log y (with_stop y.log None))

-- each event of a coordinator leaves it whole, where the participants of a commit are members
abbrev pub CoordStaysWhole : ℕ → ℕ → CoordState → Type 0
CoordStaysWhole members c y = CoordStays (IsWholeCoord members) (λ parts. all_up_to members (members_of parts) ≡ true) c y
