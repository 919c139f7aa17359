use Rattle.co_law.proofs.FreshLogs.{fresh_openable}
use Rattle.co_law.proofs.laws.fresh_logs.Goals as goal

pub returns : goal.returns
returns c = fresh_openable
