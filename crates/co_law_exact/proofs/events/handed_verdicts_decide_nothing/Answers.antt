use Rattle.co_law_exact.proofs.Decided.{handed_decides_nothing}
use Rattle.co_law_exact.proofs.events.handed_verdicts_decide_nothing.Goals as goal

pub returns-clause-verdicts : goal.returns-clause-verdicts
returns-clause-verdicts c = handed_decides_nothing
