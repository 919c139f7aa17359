use Rattle.co_law_node.proofs.CoordLaws.{coord_stays_whole}
use Rattle.co_law_node.proofs.coords.coordinators_stay_whole.Goals as goal

pub returns : goal.returns
returns c = coord_stays_whole
