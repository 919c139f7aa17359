use Rattle.co_law_snapshot.proofs.Runs.{snapshot_start}
use Rattle.co_law_snapshot.proofs.snapshot.opened_logs_have_snapshots.Goals as goal

pub returns : goal.returns
returns c = snapshot_start
