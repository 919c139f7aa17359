use Rattle.co_law_node.proofs.CoordLaws.{coord_as_told}
use Rattle.co_law_node.proofs.CoordEvents.{whole_coord_opened}
use Rattle.co_law_node.proofs.coords.opened_coordinators_are_whole.Goals as goal

pub returns : goal.returns
returns c = λ members number found h. coord_as_told members _ (whole_coord_opened members number found h)
