use Rattle.co_law.proofs.EveryFinal.{every_lost}
use Rattle.co_law.proofs.finality.lost_transactions_stay_lost.Goals as goal

pub returns : goal.returns
returns c = every_lost
