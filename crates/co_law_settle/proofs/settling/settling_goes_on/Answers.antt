use Rattle.co_law_settle.proofs.Settled.{goes_on}
use Rattle.co_law_settle.proofs.settling.settling_goes_on.Goals as goal

pub returns : goal.returns
returns c = goes_on
