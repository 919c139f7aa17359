use Rattle.co_node.proofs.Opened.{attached_stands, made_stands}
use Rattle.co_node.proofs.laws.opened_logs_stand.Goals as goal

pub returns-clause-attached : goal.returns-clause-attached
returns-clause-attached c = attached_stands

pub returns-clause-made : goal.returns-clause-made
returns-clause-made c = made_stands
