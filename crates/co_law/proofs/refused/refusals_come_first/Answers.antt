use Rattle.co_law.proofs.RefusedLines.{by_refusal}
use Rattle.co_law.proofs.refused.refusals_come_first.Goals as goal

pub returns-clause-refused : goal.returns-clause-refused
returns-clause-refused c = λ s e a h. (by_refusal s e).refused a h

pub returns-clause-admitted : goal.returns-clause-admitted
returns-clause-admitted c = λ s e a n h r. (by_refusal s e).admitted n a h r
