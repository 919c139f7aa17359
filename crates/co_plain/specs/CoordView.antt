-- What a coordinator's log tells: the commits that wait for acknowledgements, and every number seen.
use Rattle.std.specs.Prelude.{ℕ, Bool, true, false, not, ◌&&◌, ◌==◌, nat_le, suc, List, [], ◌∷◌, if◌then◌else◌, Option, None, Some}
use Rattle.co_record.specs.declared.record.Record.{Record}
use Rattle.co_record.specs.declared.record.Record.TheVariants as log
use Rattle.co_state.specs.Table.{Table, no_entries, put, without, holds}
use Rattle.co_plain.specs.declared.coord_view.CoordView.{CoordView}
use Rattle.co_plain.specs.Numbers.{TxnNumber, Place}
use Rattle.co_plain.specs.MemberView.{with_number}

-- A view has the commits without end, each with its participants, and the numbers of all commits.
abbrev pub no_commits : CoordView
no_commits = record { unended = no_entries; seen = no_entries }

-- a commit without participants counts as ended at once
abbrev pub unended_with : Table (List ℕ) → TxnNumber → List ℕ → Table (List ℕ)
unended_with unended t [] = unended
unended_with unended t (m ∷ ms) = put unended t (m ∷ ms)

abbrev pub commits_with : CoordView → Record → CoordView
commits_with v (log.Header node generation) = v
commits_with v (log.Prepare t coord count reads writes) = v
commits_with v (log.Commit t members) = record { unended = unended_with v.unended t members; seen = with_number v.seen t }
commits_with v (log.Abort t) = v
commits_with v (log.End t) = record { unended = without v.unended t; seen = v.seen }
commits_with v (log.Checkpoint rows undos committed) = v

-- what a log tells, its newest record first
abbrev pub recovered_commits : List Record → CoordView
recovered_commits [] = no_commits
recovered_commits (r ∷ rs) = commits_with (recovered_commits rs) r

abbrev pub all_up_to : ℕ → List ℕ → Bool
all_up_to most [] = true
all_up_to most (m ∷ ms) = nat_le 1 m && nat_le m most && all_up_to most ms

-- Which record may stand where in a coordinator's log, in a federation of so many members.
abbrev pub coord_allows : ℕ → Place → CoordView → Record → Bool
coord_allows members place v (log.Header node generation) = place == 0
coord_allows members place v (log.Checkpoint rows undos committed) = false
coord_allows members place v (log.Prepare t coord count reads writes) = false
coord_allows members place v (log.Commit t ms) = nat_le 1 place && not (holds v.seen t) && all_up_to members ms
coord_allows members place v (log.Abort t) = false
coord_allows members place v (log.End t) = holds v.unended t

abbrev pub first_refused_commit : ℕ → Place → CoordView → List Record → Option ℕ
first_refused_commit members place v [] = None
first_refused_commit members place v (r ∷ rs) =
    if coord_allows members place v r then first_refused_commit members (suc place) (commits_with v r) rs else Some place

-- of a whole log, its oldest record first: the place of the first record that is not allowed
abbrev pub first_refused_at_coord : ℕ → List Record → Option ℕ
first_refused_at_coord members records = first_refused_commit members 0 no_commits records

-- whether the file has a commit of the transaction, ended or not
abbrev pub has_commit_of : List Record → TxnNumber → Bool
has_commit_of records t = holds (recovered_commits records).seen t
