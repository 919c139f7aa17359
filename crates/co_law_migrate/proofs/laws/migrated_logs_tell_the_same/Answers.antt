use Rattle.co_law_migrate.proofs.Told.{same_view, same_unended}
use Rattle.co_law_migrate.proofs.laws.migrated_logs_tell_the_same.Goals as goal

pub returns-clause-view : goal.returns-clause-view
returns-clause-view c = same_view

pub returns-clause-unended : goal.returns-clause-unended
returns-clause-unended c = λ n t records. same_unended n records t
