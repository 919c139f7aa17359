use Rattle.co_migrate.proofs.Keeping.{keeps_records}
use Rattle.co_migrate.proofs.laws.migrations_keep_records.Goals as goal

pub returns : goal.returns
returns c = keeps_records
