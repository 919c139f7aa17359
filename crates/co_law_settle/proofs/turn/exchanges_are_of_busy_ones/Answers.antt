use Rattle.co_law_settle.proofs.Busy.{enabled_busy}
use Rattle.co_law_settle.proofs.turn.exchanges_are_of_busy_ones.Goals as goal

pub returns : goal.returns
returns c = enabled_busy
