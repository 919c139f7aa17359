use Rattle.co_law_settle.proofs.Settled.{serially}
use Rattle.co_law_settle.proofs.settling.settled_records.Goals as goal

pub returns : goal.returns
returns c = λ kinds coords fm fc hs m g v none i. serially kinds coords fm fc hs g v none m i
