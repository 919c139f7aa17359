use Rattle.co_law_node.proofs.MemberLaws.{stays_whole}
use Rattle.co_law_node.proofs.members.members_stay_whole.Goals as goal

pub returns : goal.returns
returns c = stays_whole
