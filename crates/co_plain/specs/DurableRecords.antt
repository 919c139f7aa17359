-- The durable records: what the logs alone give, whatever memory held. They are the records that each member's
-- log tells, with the writes of each voted transaction laid over whose coordinator's log has its commit.
use Rattle.std.specs.Prelude.{ℕ, Bool, List, [], ◌∷◌, if◌then◌else◌}
use Rattle.std.specs.FinMap.{entries}
use Rattle.co_record.specs.declared.record.Record.{Record}
use Rattle.co_serial.specs.Records.{Records, with_changes}
use Rattle.co_serial.specs.SerialRun.{AllRecords}
use Rattle.co_state.specs.declared.engine_state.Vote.{Vote}
use Rattle.co_plain.specs.declared.member_view.MemberView.{MemberView}
use Rattle.co_plain.specs.MemberView.{recovered_view}
use Rattle.co_plain.specs.CoordView.{has_commit_of}
use Rattle.co_plain.specs.Federation.{Federation}

-- votes laid over records where a test says so, the least number first
abbrev pub laid_where : (ℕ → Vote → Bool) → Records → List (ℕ × Vote) → Records
laid_where test records [] = records
laid_where test records (e ∷ es) = laid_where test (if test e.0 e.1 then with_changes records e.1.sets.writes else records) es

-- where the log of their coordinator has the commit
abbrev pub with_decided : (ℕ → List Record) → Records → List (ℕ × Vote) → Records
with_decided coord_log records es = laid_where (λ t vote. has_commit_of (coord_log vote.coord) t) records es

abbrev pub durable_of : (ℕ → List Record) → MemberView → Records
durable_of coord_log v = with_decided coord_log v.records (entries v.voted)

-- by the stable records of every log
abbrev pub durable_records : (ℕ → List Record) → (ℕ → List Record) → AllRecords
durable_records member_log coord_log m = durable_of coord_log (recovered_view (member_log m))

abbrev pub durable_in : Federation → AllRecords
durable_in s = durable_records (λ m. (s.member m).log.stable) (λ c. (s.coord c).log.stable)

-- the records from which the serial run starts: those of the logs as they were opened
abbrev pub starting_records : Federation → AllRecords
starting_records s = durable_records s.opened_member s.opened_coord
