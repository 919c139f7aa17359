use Rattle.co_law.proofs.LeftLogs.{allowed_own}
use Rattle.co_law.proofs.opening.allowed_logs_are_own.Goals as goal

pub returns : goal.returns
returns c = allowed_own
