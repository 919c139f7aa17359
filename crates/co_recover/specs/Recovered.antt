-- What a recovery answers: what the records tell, or the place of the first one that is not allowed.
use Rattle.std.specs.Prelude.{◌≡◌, ℕ, List, map, reverse, slice_get, if◌then◌else◌, Option, None, Some, Result, Ok, Err}
use Rattle.std.specs.FinMap.{entries, keys}
use Rattle.co_record.specs.declared.record.Record.{Record}
use Rattle.co_serial.specs.Records.{all_rows}
use Rattle.co_state.specs.declared.engine_state.Vote.{Vote}
use Rattle.co_state.specs.Table.{Table, look, holds}
pub use Rattle.co_pairs.specs.Votes.{prepared_of, voted_of}
use Rattle.co_plain.specs.declared.member_view.MemberView.{MemberView}
use Rattle.co_plain.specs.MemberView.{cast_in, conflicts_with_voted, forget_in, install_in, member_allows, view_with, recovered_view, first_refused_at_member}
use Rattle.co_plain.specs.declared.coord_view.CoordView.{CoordView}
use Rattle.co_plain.specs.CoordView.{coord_allows, commits_with, recovered_commits, first_refused_at_coord}
use Rattle.co_recover.specs.declared.fault.RecoverFault.{RecoverFault}
use Rattle.co_recover.specs.declared.fault.RecoverFault.TheVariants.{Inconsistent, Memory}
use Rattle.co_recover.specs.declared.past.CoordPast.{CoordPast}
use Rattle.co_recover.specs.declared.past.Decided.{Decided}
use Rattle.co_recover.specs.declared.past.MemberPast.{MemberPast}

-- the records without their places, the oldest first
abbrev pub records_of : List (ℕ × Record) → List Record
records_of items = map (λ item. item.1) items

-- the first record that is refused stands at this place of the file
pub record IsRefusedAt (items : List (ℕ × Record)) (refused : Option ℕ) (at : ℕ) : Type 0 where
  pub behind : ℕ
  pub first : refused ≡ Some behind
  pub place : slice_get (map (λ item. item.0) items) behind ≡ Some at

-- ---- members

-- the view after one more record, or none where it is not allowed
abbrev pub member_next : ℕ → ℕ → MemberView → Record → Option MemberView
member_next coords place view entry = if member_allows coords place view entry then Some (view_with view entry) else None

-- the view after a transaction voted, or none where a vote is in conflict with it
abbrev pub cast : MemberView → ℕ → Vote → Option MemberView
cast view t vote = if conflicts_with_voted view vote.sets then None else Some (cast_in view t vote)

-- the view after a voted transaction was aborted, or was committed; none where it is not voted
abbrev pub forgotten : MemberView → ℕ → Option MemberView
forgotten view t = if holds view.voted t then Some (forget_in view t) else None

abbrev pub installed : MemberView → ℕ → Option MemberView
installed view t = if holds view.voted t then Some (install_in view t (look view.voted t)) else None

abbrev pub past_of_member : MemberView → MemberPast
past_of_member view = record { rows = all_rows view.records; voted = voted_of view.voted; committed = keys view.committed }

abbrev pub IsMemberRecovery : ℕ → List (ℕ × Record) → Result MemberPast RecoverFault → Type 0
IsMemberRecovery coords items (Ok past) =
    (first_refused_at_member coords (records_of items) ≡ None) × (past ≡ past_of_member (recovered_view (reverse (records_of items))))
IsMemberRecovery coords items (Err (Inconsistent at)) = IsRefusedAt items (first_refused_at_member coords (records_of items)) at
IsMemberRecovery coords items (Err Memory) = Unit {0}

-- ---- coordinators

-- the view after one more record, or none where it is not allowed
abbrev pub coord_next : ℕ → ℕ → CoordView → Record → Option CoordView
coord_next members place view entry = if coord_allows members place view entry then Some (commits_with view entry) else None

abbrev pub decided_of : ℕ × List ℕ → Decided
decided_of entry = record { txn = entry.0; members = entry.1 }

abbrev pub commits_of : Table (List ℕ) → List Decided
commits_of unended = map decided_of (entries unended)

abbrev pub past_of_coord : CoordView → CoordPast
past_of_coord view = record { committed = commits_of view.unended; seen = keys view.seen }

abbrev pub IsCoordRecovery : ℕ → List (ℕ × Record) → Result CoordPast RecoverFault → Type 0
IsCoordRecovery members items (Ok past) =
    (first_refused_at_coord members (records_of items) ≡ None) × (past ≡ past_of_coord (recovered_commits (reverse (records_of items))))
IsCoordRecovery members items (Err (Inconsistent at)) = IsRefusedAt items (first_refused_at_coord members (records_of items)) at
IsCoordRecovery members items (Err Memory) = Unit {0}
