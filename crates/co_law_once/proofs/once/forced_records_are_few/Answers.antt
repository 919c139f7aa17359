use Rattle.co_law_once.proofs.Writing.{forced_few}
use Rattle.co_law_once.proofs.once.forced_records_are_few.Goals as goal

pub returns : goal.returns
returns c = forced_few
