use Rattle.co_law_settle.proofs.Settled.{counted}
use Rattle.co_law_settle.proofs.OpenSets.{left_most}
use Rattle.co_law_settle.proofs.turn.what_is_left_is_counted.Goals as goal

pub returns : goal.returns
returns c = record { counted = counted; most = left_most }
