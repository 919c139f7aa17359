use Rattle.co_law.proofs.EveryRun.{every_sound}
use Rattle.co_law.proofs.laws.sound_logs.Goals as goal

pub returns : goal.returns
returns c = every_sound
