use Rattle.co_law.proofs.EveryFinal.{every_timer}
use Rattle.co_law.proofs.finality.timers_are_final.Goals as goal

pub returns : goal.returns
returns c = every_timer
