-- What a member has installed, as a serial run: that of exactly the transactions that it has installed.
use Rattle.std.specs.Prelude.{ℕ, true, false, ◌&&◌, ◌||◌, ◌≡◌, List, [], ◌∷◌, map, reverse, filter, Some}
use Rattle.std.specs.FinMap.{entries}
use Rattle.co_record.specs.declared.record.Record.{Record}
use Rattle.co_serial.specs.Records.{Records}
use Rattle.co_serial.specs.SerialRun.{AllRecords, after}
use Rattle.co_state.specs.declared.engine_state.Vote.{Vote}
use Rattle.co_state.specs.Keys.{writes_meet}
use Rattle.co_state.specs.Table.{look, holds}
use Rattle.co_plain.specs.declared.member_view.MemberView.{MemberView}
use Rattle.co_plain.specs.declared.session.Decided.{Decided}
use Rattle.co_plain.specs.Numbers.{MemberNumber, CoordNumber}
use Rattle.co_plain.specs.MemberView.{Numbers, recovered_view}
use Rattle.co_plain.specs.CoordView.{has_commit_of}
use Rattle.co_plain.specs.Sessions.{told_at}
use Rattle.co_plain.specs.Federation.{Federation}
use Rattle.co_plain.specs.Decisions.{is_decided, sites_of}
use Rattle.co_plain.specs.DurableRecords.{laid_where}
use Rattle.co_plain.specs.Invariants.{Side, Memory, view, VotedAreConflictFree, told_changes}

-- the decided ones among some transactions, the newest first
abbrev pub decided_among : Numbers → List Decided → List Decided
decided_among numbers decided = filter (λ d. holds numbers d.txn) decided

-- The records from which the serial run of some transactions starts: those of the opened logs, with the writes of each opened
-- vote laid over that is among them and whose coordinator's opened log has its commit, the least number first.
abbrev pub starting_among : (MemberNumber → List Record) → (CoordNumber → List Record) → Numbers → AllRecords
starting_among member_log coord_log numbers m =
    laid_where (λ t vote. holds numbers t && has_commit_of (coord_log vote.coord) t) (recovered_view (member_log m)).records
    (entries (recovered_view (member_log m)).voted)

-- the records that their serial run leaves, in decision order; the newest decided one stands first
abbrev pub serial_among : Federation → Numbers → List Decided → AllRecords
serial_among s numbers decided =
    after (starting_among s.opened_member s.opened_coord numbers) (reverse (map (λ d. sites_of d.told) (decided_among numbers decided)))

-- what it leaves at a member, run of the transactions that are installed there
abbrev pub installed_serial_records : Federation → MemberNumber → Records
installed_serial_records s m = serial_among s (s.member m).committed s.decided m

-- The law: the records that each member has in memory are those.
abbrev pub InstalledAreSnapshots : Federation → Type 0
InstalledAreSnapshots s = (m : ℕ) → (view Memory (s.member m)).records ≡ installed_serial_records s m

-- and so over the decisions of a later state of the run: what is decided since is not among what was installed then
abbrev pub AreSnapshotsOf : Federation → Federation → Type 0
AreSnapshotsOf later s = (m : ℕ) → (view Memory (s.member m)).records ≡ serial_among later (s.member m).committed later.decided m

-- Who was decided after a vote was settled leaves at the member what that vote writes; so the vote may be installed after it, and
-- leaves what it would leave at its own place. The newest decided one stands first.
abbrev pub LaterLeave : (CoordNumber → List Record) → MemberNumber → MemberView → List Decided → Type 0
LaterLeave coord_log m v [] = Unit {0}
LaterLeave coord_log m v (d ∷ earlier) =
    ((t : ℕ) (vote : Vote) → look v.voted t ≡ Some vote → (is_decided earlier t || has_commit_of (coord_log vote.coord) t) ≡ true →
    writes_meet vote.sets.writes (told_changes (told_at d.told m)) ≡ false)
    × LaterLeave coord_log m v earlier

-- what each event keeps of a view of a member
pub record SnapshotFacts (s : Federation) (m : ℕ) (v : MemberView) : Type 0 where
  pub serial : v.records ≡ serial_among s v.committed s.decided m
  pub later_leave : LaterLeave s.opened_coord m v s.decided
  -- the vote of a transaction that was not begun in this run is that of the opened log
  pub opened_votes : (t : ℕ) (vote : Vote) → holds s.sessions t ≡ false → look v.voted t ≡ Some vote →
      look (recovered_view (s.opened_member m)).voted t ≡ Some vote

-- and so of all members, in memory and by their stable records, over opened votes without conflicts
pub record SnapshotInvariants (s : Federation) : Type 0 where
  pub views : (m : ℕ) (side : Side) → SnapshotFacts s m (view side (s.member m))
  pub opened_free : (m : ℕ) → VotedAreConflictFree (recovered_view (s.opened_member m))
