use Rattle.co_law_node.proofs.WritableCoords.{coord_stays}
use Rattle.co_law_node.proofs.coords.coordinators_stay_writable.Goals as goal

pub returns : goal.returns
returns c = coord_stays
