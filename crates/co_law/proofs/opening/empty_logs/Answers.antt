use Rattle.co_law.proofs.LeftLogs.{empty_may}
use Rattle.co_law.proofs.opening.empty_logs.Goals as goal

pub returns : goal.returns
returns c = empty_may
