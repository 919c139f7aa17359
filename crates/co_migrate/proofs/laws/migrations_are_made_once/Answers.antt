use Rattle.co_migrate.proofs.Again.{all_newest, fills_nothing}
use Rattle.co_migrate.proofs.laws.migrations_are_made_once.Goals as goal

pub returns-clause-newest : goal.returns-clause-newest
returns-clause-newest c = all_newest

pub returns-clause-again : goal.returns-clause-again
returns-clause-again c = fills_nothing
