use Rattle.co_law_sizes.proofs.Runs.{run_within, next_within}
use Rattle.co_law_sizes.proofs.logs.logs_stay_within_their_room.Goals as goal

pub returns-clause-runs : goal.returns-clause-runs
returns-clause-runs c = run_within

pub returns-clause-next : goal.returns-clause-next
returns-clause-next c = next_within
