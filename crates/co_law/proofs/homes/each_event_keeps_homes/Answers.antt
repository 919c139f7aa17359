use Rattle.co_law.proofs.EveryInvariant.{step_homes}
use Rattle.co_law.proofs.homes.each_event_keeps_homes.Goals as goal

pub returns : goal.returns
returns c = step_homes
