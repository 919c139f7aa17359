use Rattle.co_law_settle.proofs.Settled.{never_stuck}
use Rattle.co_law_settle.proofs.turn.settling_is_never_stuck.Goals as goal

pub returns : goal.returns
returns c = λ kinds coords fm fc hs t g own v names open'. never_stuck kinds coords fm fc hs g own v names t open'
