use Rattle.co_law.proofs.EveryRun.{every_log}
use Rattle.co_law.proofs.laws.logs_alone.Goals as goal

pub returns : goal.returns
returns c = every_log
