use Rattle.co_law.proofs.EveryFinal.{every_presumed}
use Rattle.co_law.proofs.finality.presumed_aborts_stay.Goals as goal

pub returns : goal.returns
returns c = every_presumed
