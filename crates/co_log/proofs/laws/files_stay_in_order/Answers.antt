use Rattle.co_log.proofs.Ordered.{attached_ordered, attached_unarmed, made_ordered, forced_ordered, closing_ordered, filling_ordered}
use Rattle.co_log.proofs.laws.files_stay_in_order.Goals as goal

pub returns-clause-attached : goal.returns-clause-attached
returns-clause-attached c = attached_ordered

pub returns-clause-made : goal.returns-clause-made
returns-clause-made c = made_ordered

pub returns-clause-forced : goal.returns-clause-forced
returns-clause-forced c = forced_ordered

pub returns-clause-closed : goal.returns-clause-closed
returns-clause-closed c = closing_ordered

pub returns-clause-filled : goal.returns-clause-filled
returns-clause-filled c = filling_ordered

pub returns-clause-unarmed : goal.returns-clause-unarmed
returns-clause-unarmed c = attached_unarmed
