use Rattle.co_durable.proofs.ReadOnce.{durable_once, undurable_once, durable_or_not}
use Rattle.co_durable.proofs.laws.directories_are_read_once.Goals as goal

pub returns-clause-records : goal.returns-clause-records
returns-clause-records c = durable_once

pub returns-clause-fault : goal.returns-clause-fault
returns-clause-fault c = undurable_once

pub returns-clause-either : goal.returns-clause-either
returns-clause-either c = durable_or_not
