use Rattle.co_log.proofs.Judged.{judged_once, bad_once, good_not_bad}
use Rattle.co_log.proofs.laws.files_are_judged_once.Goals as goal

pub returns-clause-log : goal.returns-clause-log
returns-clause-log c = judged_once

pub returns-clause-place : goal.returns-clause-place
returns-clause-place c = bad_once

pub returns-clause-either : goal.returns-clause-either
returns-clause-either c = good_not_bad
