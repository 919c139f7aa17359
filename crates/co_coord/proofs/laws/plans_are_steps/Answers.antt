use Rattle.co_coord.proofs.Steps.{begin_is, commit_is, abort_is, deliver_is, timer_is, resend_is}
use Rattle.co_coord.proofs.laws.plans_are_steps.Goals as goal

pub returns-clause-begin : goal.returns-clause-begin
returns-clause-begin c = begin_is

pub returns-clause-commit : goal.returns-clause-commit
returns-clause-commit c = commit_is

pub returns-clause-abort : goal.returns-clause-abort
returns-clause-abort c = abort_is

pub returns-clause-deliver : goal.returns-clause-deliver
returns-clause-deliver c = deliver_is

pub returns-clause-timer : goal.returns-clause-timer
returns-clause-timer c = timer_is

pub returns-clause-resend : goal.returns-clause-resend
returns-clause-resend c = resend_is
