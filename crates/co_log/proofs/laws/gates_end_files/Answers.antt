use Rattle.co_log.proofs.Versions.{begun_records}
use Rattle.co_log.proofs.Unmade.{ends_at_front}
use Rattle.co_log.proofs.laws.gates_end_files.Goals as goal

pub returns-clause-records : goal.returns-clause-records
returns-clause-records c = begun_records

pub returns-clause-front : goal.returns-clause-front
returns-clause-front c = ends_at_front
