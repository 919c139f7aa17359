use Rattle.co_law_runs.proofs.Agreement.{run_more}
use Rattle.co_law.proofs.runs.runs_go_on.Goals as goal

pub returns : goal.returns
returns c = run_more
