use Rattle.co_law_settle.proofs.Settled.{answered}
use Rattle.co_law_settle.proofs.turn.events_are_answered.Goals as goal

pub returns : goal.returns
returns c = answered
