use Rattle.co_law_settle.proofs.Settled.{ends}
use Rattle.co_law_settle.proofs.settling.settling_ends.Goals as goal

pub returns : goal.returns
returns c = λ kinds coords fm fc hs g own v names. ends kinds coords fm fc hs g own v names
