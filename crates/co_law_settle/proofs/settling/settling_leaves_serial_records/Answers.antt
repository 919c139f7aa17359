use Rattle.co_law_settle.proofs.Settled.{settled_serially}
use Rattle.co_law_settle.proofs.settling.settling_leaves_serial_records.Goals as goal

pub returns : goal.returns
returns c = λ kinds coords fm fc hs events m g own v names settles i. settled_serially kinds coords fm fc hs g own v names events settles m i
