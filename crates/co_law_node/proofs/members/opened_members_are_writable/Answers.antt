use Rattle.co_law_node.proofs.WritableMembers.{opened_writable}
use Rattle.co_law_node.proofs.members.opened_members_are_writable.Goals as goal

pub returns : goal.returns
returns c = opened_writable
