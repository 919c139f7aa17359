use Rattle.co_log.proofs.Ordered.{forced_version, closing_version, filling_version}
use Rattle.co_log.proofs.laws.versions_stay.Goals as goal

pub returns-clause-forced : goal.returns-clause-forced
returns-clause-forced c = forced_version

pub returns-clause-closed : goal.returns-clause-closed
returns-clause-closed c = closing_version

pub returns-clause-filled : goal.returns-clause-filled
returns-clause-filled c = filling_version
