use Rattle.co_law_check.proofs.Wholes.{can_be_whole}
use Rattle.co_law_check.proofs.laws.fronts_can_be_whole.Goals as goal

pub returns : goal.returns
returns c = can_be_whole
