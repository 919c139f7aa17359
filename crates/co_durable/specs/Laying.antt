-- The durable records of members, from what the logs tell.
use Rattle.std.specs.Prelude.{ℕ, suc, ◌-◌, List, [], ◌∷◌, ◌++◌, map, if◌then◌else◌, slice_index_or}
use Rattle.co_base.specs.declared.row.Row.{Row}
use Rattle.co_pairs.specs.declared.prepared.Prepared.{Prepared}
use Rattle.co_serial.specs.Records.{Records, all_rows, with_changes}
use Rattle.co_state.specs.Effects.{records_from}
use Rattle.co_state.specs.Table.{no_entries, holds}
use Rattle.co_plain.specs.MemberView.{Numbers}
use Rattle.co_recover.specs.declared.past.MemberPast.{MemberPast}
use Rattle.co_serial.specs.MemberRows.{member_rows}
use Rattle.co_serial.specs.declared.member_row.MemberRow.{MemberRow}

-- the commits in the log of a coordinator, by its number; one past the last has none
abbrev pub seen_by : List Numbers → ℕ → Numbers
seen_by seen c = slice_index_or seen (c - 1) no_entries

-- votes laid over records where their coordinator's log has the commit, the first vote first
abbrev pub with_decided_votes : List Numbers → Records → List Prepared → Records
with_decided_votes seen records [] = records
with_decided_votes seen records (vote ∷ votes) =
    with_decided_votes seen (if holds (seen_by seen vote.coord) vote.txn then with_changes records vote.sets.writes else records) votes

-- the durable records of a member whose log tells this
abbrev pub durable_of_past : List Numbers → MemberPast → Records
durable_of_past seen past = with_decided_votes seen (records_from past.rows) past.voted

-- the rows of members, the first of which has this number
abbrev pub rows_from : ℕ → List (List Row) → List MemberRow
rows_from member [] = []
rows_from member (rows ∷ more) = member_rows member rows ++ rows_from (suc member) more

abbrev pub durable_of_pasts : List Numbers → List MemberPast → List MemberRow
durable_of_pasts seen pasts = rows_from 1 (map (λ past. all_rows (durable_of_past seen past)) pasts)
