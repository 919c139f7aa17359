use Rattle.co_law_node.proofs.MemberLaws.{as_told}
use Rattle.co_law_node.proofs.MemberEvents.{whole_opened}
use Rattle.co_law_node.proofs.members.opened_members_are_whole.Goals as goal

pub returns : goal.returns
returns c = λ coords kinds m found h. as_told coords _ (whole_opened coords kinds m found h)
