use Rattle.co_law.proofs.EveryEvent.{every_event}
use Rattle.co_law.proofs.events.events_are_moves.Goals as goal

pub returns : goal.returns
returns c = every_event
