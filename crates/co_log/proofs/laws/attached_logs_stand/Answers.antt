use Rattle.co_log.proofs.Attached.{attached_stands}
use Rattle.co_log.proofs.laws.attached_logs_stand.Goals as goal

pub returns : goal.returns
returns c = attached_stands
