use Rattle.co_law_rounds.proofs.FairEnding.{fairly_ended}
use Rattle.co_law_rounds.proofs.fair.fair_rounds_end_every_transaction.Goals as goal

pub returns : goal.returns
returns c = λ kinds coords fm fc hs rounds g own v names unarmed up go many. fairly_ended kinds coords fm fc hs g own v names unarmed up rounds go many
