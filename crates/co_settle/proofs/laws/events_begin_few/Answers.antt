use Rattle.co_settle.proofs.Few.{begin_few}
use Rattle.co_settle.proofs.laws.events_begin_few.Goals as goal

pub returns : goal.returns
returns c = begin_few
