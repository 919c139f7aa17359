use Rattle.co_law.proofs.EveryHome.{every_home}
use Rattle.co_law.proofs.homes.messages_name_homes.Goals as goal

pub returns : goal.returns
returns c = every_home
