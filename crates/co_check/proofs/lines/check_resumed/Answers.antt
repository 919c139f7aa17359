use Rattle.std.proofs.Common.{sym, subst}
use Rattle.co_check.specs.Resumed.{IsResumedCheck}
use Rattle.co_check.specs.Stages.{at_records}
use Rattle.co_check.proofs.Plainly.{resumed_checks}
use Rattle.co_check.proofs.lines.check_resumed.Goals as goal

pub returns-clause-checked : goal.returns-clause-checked
returns-clause-checked g c = λ text e. subst (IsResumedCheck text) (sym c.verdict_of.ensures) (resumed_checks text c.read_on.result (c.read_on.ensures.checked at_records text c.new.ensures.stands e))

pub returns-clause-heard : goal.returns-clause-heard
returns-clause-heard g c = λ text more ahead. subst (IsResumedCheck text) (sym c.verdict_of.ensures) (resumed_checks text c.read_on.result (c.read_on.ensures.heard at_records text more c.new.ensures.stands ahead))
