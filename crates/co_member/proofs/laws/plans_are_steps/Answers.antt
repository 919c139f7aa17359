use Rattle.co_member.proofs.Steps.{deliver_is, vote_is, timer_is, ask_is, local_commit_is, local_abort_is}
use Rattle.co_member.proofs.laws.plans_are_steps.Goals as goal

pub returns-clause-deliver : goal.returns-clause-deliver
returns-clause-deliver c = λ m x message. deliver_is m x message

pub returns-clause-vote : goal.returns-clause-vote
returns-clause-vote c = λ m t x. vote_is m t x

pub returns-clause-timer : goal.returns-clause-timer
returns-clause-timer c = λ m t x. timer_is m t x

pub returns-clause-ask : goal.returns-clause-ask
returns-clause-ask c = λ m t x. ask_is m t x

pub returns-clause-local_commit : goal.returns-clause-local_commit
returns-clause-local_commit c = λ m t carried x. local_commit_is m t carried x

pub returns-clause-local_abort : goal.returns-clause-local_abort
returns-clause-local_abort c = λ m t x. local_abort_is m t x
