use Rattle.co_law_node.proofs.WritableMembers.{stays_writable}
use Rattle.co_law_node.proofs.members.members_stay_writable.Goals as goal

pub returns : goal.returns
returns c = stays_writable
