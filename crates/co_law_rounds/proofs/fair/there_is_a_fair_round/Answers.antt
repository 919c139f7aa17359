use Rattle.co_law_rounds.proofs.RoundsExist.{round_there}
use Rattle.co_law_rounds.proofs.fair.there_is_a_fair_round.Goals as goal

pub returns : goal.returns
returns c = λ kinds coords fm fc hs g own v names unarmed up. round_there kinds coords fm fc hs g own v names unarmed up
