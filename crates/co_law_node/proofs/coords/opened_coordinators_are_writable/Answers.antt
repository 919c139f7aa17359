use Rattle.co_law_node.proofs.WritableCoords.{opened_coord_writable}
use Rattle.co_law_node.proofs.coords.opened_coordinators_are_writable.Goals as goal

pub returns : goal.returns
returns c = opened_coord_writable
