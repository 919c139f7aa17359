use Rattle.co_log.proofs.Judged.{pair_once, attached_not_bad, current_once, one_current, none_current}
use Rattle.co_log.proofs.laws.nodes_are_judged_once.Goals as goal

pub returns-clause-pair : goal.returns-clause-pair
returns-clause-pair c = pair_once

pub returns-clause-attached : goal.returns-clause-attached
returns-clause-attached c = attached_not_bad

pub returns-clause-records : goal.returns-clause-records
returns-clause-records c = current_once

pub returns-clause-current : goal.returns-clause-current
returns-clause-current c = one_current

pub returns-clause-none : goal.returns-clause-none
returns-clause-none c = none_current
