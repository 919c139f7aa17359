use Rattle.co_settle.proofs.Bounded.{most_settling, few_settling}
use Rattle.co_settle.proofs.laws.settling_is_short.Goals as goal

pub returns-clause-each : goal.returns-clause-each
returns-clause-each c = most_settling

pub returns-clause-largest : goal.returns-clause-largest
returns-clause-largest c = few_settling
