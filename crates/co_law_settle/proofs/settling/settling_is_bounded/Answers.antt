use Rattle.co_law_settle.proofs.Settled.{bounded}
use Rattle.co_law_settle.proofs.settling.settling_is_bounded.Goals as goal

pub returns : goal.returns
returns c = λ kinds coords fm fc hs events few some g own v names settling. bounded kinds coords fm fc hs g own v names few some events settling
