use Rattle.co_log.proofs.Ordered.{next_records, filled_records}
use Rattle.co_log.proofs.laws.records_are_added.Goals as goal

pub returns-clause-forced : goal.returns-clause-forced
returns-clause-forced c = next_records

pub returns-clause-filled : goal.returns-clause-filled
returns-clause-filled c = filled_records
