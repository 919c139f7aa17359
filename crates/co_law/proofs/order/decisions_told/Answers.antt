use Rattle.co_law.proofs.EveryOrder.{every_decision, every_line_decision}
use Rattle.co_law.proofs.order.decisions_told.Goals as goal

pub returns-clause-runs : goal.returns-clause-runs
returns-clause-runs c = every_decision

pub returns-clause-transcripts : goal.returns-clause-transcripts
returns-clause-transcripts c = every_line_decision
