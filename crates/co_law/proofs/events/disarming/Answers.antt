use Rattle.co_law.proofs.EveryEvent.{every_disarming}
use Rattle.co_law.proofs.events.disarming.Goals as goal

pub returns : goal.returns
returns c = every_disarming
