use Rattle.co_law_settle.proofs.Settled.{next_turn}
use Rattle.co_law_settle.proofs.settling.settling_has_a_next_turn.Goals as goal

pub returns : goal.returns
returns c = λ kinds coords fm fc hs events t g own v names settling open'. next_turn kinds coords fm fc hs g own v names events settling t open'
