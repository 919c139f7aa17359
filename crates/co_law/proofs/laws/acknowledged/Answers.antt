use Rattle.co_law.proofs.EveryRun.{every_acknowledged}
use Rattle.co_law.proofs.laws.acknowledged.Goals as goal

pub returns : goal.returns
returns c = every_acknowledged
