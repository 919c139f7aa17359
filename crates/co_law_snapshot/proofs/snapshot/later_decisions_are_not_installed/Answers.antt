use Rattle.co_law_snapshot.proofs.LaterDecisions.{later_decided}
use Rattle.co_law_snapshot.proofs.snapshot.later_decisions_are_not_installed.Goals as goal

pub returns : goal.returns
returns c = later_decided
