use Rattle.co_law.proofs.LeftLogs.{every_left}
use Rattle.co_law.proofs.opening.left_logs.Goals as goal

pub returns : goal.returns
returns c = every_left
