use Rattle.co_frame.proofs.Texts.{reads_once, breaks_once, reads_or_breaks}
use Rattle.co_frame.proofs.laws.one_reading.Goals as goal

pub returns-clause-text : goal.returns-clause-text
returns-clause-text c = reads_once

pub returns-clause-broken : goal.returns-clause-broken
returns-clause-broken c = breaks_once

pub returns-clause-either : goal.returns-clause-either
returns-clause-either c = reads_or_breaks
