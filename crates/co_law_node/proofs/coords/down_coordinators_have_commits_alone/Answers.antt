use Rattle.co_law_node.proofs.CoordLaws.{commits_alone_down}
use Rattle.co_law_node.proofs.coords.down_coordinators_have_commits_alone.Goals as goal

pub returns : goal.returns
returns c = commits_alone_down
