use Rattle.co_migrate.proofs.Imaged.{images_keep, images_left}
use Rattle.co_migrate.proofs.laws.images_keep_records.Goals as goal

pub returns-clause-left : goal.returns-clause-left
returns-clause-left c = images_left

pub returns-clause-records : goal.returns-clause-records
returns-clause-records c = images_keep
