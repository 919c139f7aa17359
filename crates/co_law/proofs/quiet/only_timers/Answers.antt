use Rattle.co_law.proofs.EveryQuiet.{every_quiet}
use Rattle.co_law.proofs.quiet.only_timers.Goals as goal

pub returns : goal.returns
returns c = every_quiet
