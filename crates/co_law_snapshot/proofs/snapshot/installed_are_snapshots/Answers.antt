use Rattle.co_law_snapshot.proofs.Runs.{every_snapshot, every_later}
use Rattle.co_law_snapshot.proofs.snapshot.installed_are_snapshots.Goals as goal

pub returns-clause-now : goal.returns-clause-now
returns-clause-now c = every_snapshot

pub returns-clause-later : goal.returns-clause-later
returns-clause-later c = every_later
