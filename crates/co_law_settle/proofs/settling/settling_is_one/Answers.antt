use Rattle.co_law_settle.proofs.Settled.{one_settling}
use Rattle.co_law_settle.proofs.settling.settling_is_one.Goals as goal

pub returns : goal.returns
returns c = λ kinds coords fm fc hs events others g own v names a b. one_settling kinds coords fm fc hs g own v names events others a b
