use Rattle.co_law_snapshot.proofs.Runs.{snapshot_step, snapshot_law}
use Rattle.co_law_snapshot.proofs.snapshot.each_event_keeps_snapshots.Goals as goal

pub returns-clause-kept : goal.returns-clause-kept
returns-clause-kept c = snapshot_step

pub returns-clause-law : goal.returns-clause-law
returns-clause-law c = snapshot_law
