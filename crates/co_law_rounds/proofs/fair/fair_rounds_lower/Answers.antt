use Rattle.co_law_rounds.proofs.FairEnding.{round_lowers}
use Rattle.co_law_rounds.proofs.fair.fair_rounds_lower.Goals as goal

pub returns : goal.returns
returns c = λ kinds coords fm fc hs round g own v names unarmed up o r. round_lowers kinds coords fm fc hs g own v names unarmed up round o r
