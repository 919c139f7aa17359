use Rattle.co_log.proofs.Spots.{spots_apart, not_current, not_spare, held_elsewhere}
use Rattle.co_log.proofs.laws.logs_leave_each_other.Goals as goal

pub returns-clause-two : goal.returns-clause-two
returns-clause-two c = spots_apart

pub returns-clause-own : goal.returns-clause-own
returns-clause-own c = λ log s spots a b. (not_current log s spots a b, not_spare log s spots a b)

pub returns-clause-held : goal.returns-clause-held
returns-clause-held c = held_elsewhere
