use Rattle.co_coop.proofs.Ends.{remains}
use Rattle.co_coop.proofs.laws.doubts_remain_exactly.Goals as goal

pub returns : goal.returns
returns c = remains
