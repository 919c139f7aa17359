use Rattle.co_law.proofs.EveryRun.{every_agreement}
use Rattle.co_law.proofs.laws.agreement.Goals as goal

pub returns : goal.returns
returns c = every_agreement
