use Rattle.co_settle.proofs.Few.{fresh_few}
use Rattle.co_settle.proofs.laws.fresh_runs_leave_few_open.Goals as goal

pub returns : goal.returns
returns c = λ kinds coords fm fc events unused r. fresh_few kinds coords fm fc unused events r
