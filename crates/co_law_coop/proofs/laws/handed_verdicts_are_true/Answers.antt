use Rattle.co_law_coop.proofs.Handing.{true_consultation}
use Rattle.co_law_coop.proofs.laws.handed_verdicts_are_true.Goals as goal

pub returns : goal.returns
returns c = true_consultation
