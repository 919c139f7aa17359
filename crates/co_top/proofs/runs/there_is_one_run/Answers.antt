use Rattle.co_top.proofs.OneRun.{one_run}
use Rattle.co_top.proofs.runs.there_is_one_run.Goals as goal

pub returns : goal.returns
returns c = λ resume input old this that told whole ended. one_run this that told whole ended
